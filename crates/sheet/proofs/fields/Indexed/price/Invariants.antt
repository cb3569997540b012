-- The loop's invariant: the largest and the sum so far, joined with the values of the successors left, are those of all of them, and so
-- is the dearest so far.
use Rattle.model.specs.Problem.{value_of, states}
use Rattle.model.specs.Read.{problem_of, cells_of}
use Rattle.sheet.specs.Sheet.{action_of, Below}
use Rattle.sheet.proofs.Joining.{Sums}
use Rattle.sheet.proofs.fields.Indexed.price.Given as goal

abbrev pub invariant-loop-t : goal.invariant-loop-t
invariant-loop-t l = record {
  sums : Sums (value_of (cells_of l.self)) (action_of l.action).successors l.total l.most l.dearest l.t-iterator;
  below : Below (states (problem_of l.self)) l.t-iterator;
}
