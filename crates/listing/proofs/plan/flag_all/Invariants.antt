-- The loop's invariant: with the flags of the successors left up too, those of all of them are.
use mathlib.Core.Path.{◌≡◌}
use lib.ListN.{length}
use Rattle.sheet.specs.Sheet.{action_of, Below}
use Rattle.listing.specs.Put.{flagged}
use Rattle.listing.proofs.plan.flag_all.Given as goal

abbrev pub invariant-loop-t : goal.invariant-loop-t
invariant-loop-t l = record {
  up : flagged l.flags l.t-iterator ≡ flagged l.initial.flags (action_of l.action).successors;
  below : Below (length l.flags) l.t-iterator;
}
