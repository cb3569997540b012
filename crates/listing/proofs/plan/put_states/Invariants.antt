-- The loop's invariant is `Lined` of Reaching: the lines of the states below s that are reached are written, and the flags say which
-- states those reach.
use lib.ListN.{length}
use Rattle.model.specs.Read.{problem_of, cells_of}
use Rattle.listing.proofs.Reaching.{Lined}
use Rattle.listing.proofs.plan.put_states.Given as goal

abbrev pub invariant-loop-s : goal.invariant-loop-s
invariant-loop-s l = Lined (problem_of l.sheet) (cells_of l.sheet) l.n (length l.initial.flags) l.initial.page l.flags l.page l.s
