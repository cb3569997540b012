-- The loop's invariant: the findings of the actions that have come have been released.
use Rattle.model.specs.Read.{problem_of}
use Rattle.sheet.proofs.Laws.{actions_at}
use Rattle.rearrange.proofs.Walking.{Over}
use Rattle.rearrange.proofs.Releasing.{Releasing}
use Rattle.rearrange.proofs.placing.release.Given as goal

abbrev pub invariant-loop-action : goal.invariant-loop-action
invariant-loop-action l = record {
  over : Over l.sheet l.state l.action-iterator;
  releasing : Releasing l.initial.waits (actions_at (problem_of l.sheet) l.state) l.low l.waits l.least l.action-iterator.index;
}
