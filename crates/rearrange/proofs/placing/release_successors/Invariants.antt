use Rattle.sheet.specs.Sheet.{action_of}
use Rattle.rearrange.proofs.Releasing.{Lowering}
use Rattle.rearrange.proofs.placing.release_successors.Given as goal

abbrev pub invariant-loop-t : goal.invariant-loop-t
invariant-loop-t l = Lowering l.initial.waits (action_of l.action).successors l.low l.waits l.least l.t-iterator
