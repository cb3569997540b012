-- The loop's invariant: n actions have come, and their costs are in range.
use Rattle.questions.proofs.Stepping.{Counting}
use Rattle.questions.proofs.states.count_in_range.Given as goal

abbrev pub invariant-loop-action : goal.invariant-loop-action
invariant-loop-action l = Counting l.sheet l.state l.action-iterator l.n
