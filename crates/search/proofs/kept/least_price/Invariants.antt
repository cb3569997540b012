-- The loop's invariant: the least price so far, with those of the actions left, gives the least of all.
use Prim.Native.Nat.{ℕ}
use mathlib.Core.List.{List}
use mathlib.Core.Path.{◌≡◌}
use Rattle.model.specs.Problem.{Action, value_of}
use Rattle.model.specs.QValue.{q, least}
use Rattle.model.specs.Read.{problem_of, cells_of}
use Rattle.sheet.proofs.Laws.{actions_at}
use Rattle.sheet.proofs.Joining.{least_so_far}
use Rattle.search.proofs.kept.least_price.Given as goal

abbrev pub prices : List ℕ → Action → ℕ
prices s = q (problem_of s).kind (value_of (cells_of s))

abbrev pub invariant-loop-action : goal.invariant-loop-action
invariant-loop-action l =
    let acts = actions_at (problem_of l.sheet) l.state in record {
      bytes : l.action-iterator.bytes ≡ l.sheet;
      state : l.action-iterator.state ≡ l.state;
      least_is : least (prices l.sheet) acts ≡ least_so_far (prices l.sheet) acts l.action-iterator.index l.least;
    }
