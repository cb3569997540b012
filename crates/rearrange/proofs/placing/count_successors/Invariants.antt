use Rattle.sheet.specs.Sheet.{action_of}
use Rattle.rearrange.proofs.Tally.{Counting}
use Rattle.rearrange.proofs.placing.count_successors.Given as goal

abbrev pub invariant-loop-t : goal.invariant-loop-t
invariant-loop-t l = Counting l.initial.waits (action_of l.action).successors l.waits l.t-iterator
