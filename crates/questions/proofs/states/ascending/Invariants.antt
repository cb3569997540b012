-- The loop's invariant: to ask the successors that are left, and the last so far, is to ask all of them.
use Rattle.sheet.specs.Sheet.{action_of}
use Rattle.questions.proofs.Stepping.{Rising}
use Rattle.questions.proofs.states.ascending.Given as goal

abbrev pub invariant-loop-t : goal.invariant-loop-t
invariant-loop-t l = Rising l.step l.low l.n (action_of l.action).successors l.last l.least l.t-iterator
