-- What the two loops carry is `ReadingStates` and `ReadingActions` of Reading.
use Prim.Native.Nat.{suc, ◌-◌}
use Rattle.model.specs.Limits.{max_actions}
use Rattle.questions.proofs.Reading.{ReadingStates, ReadingActions}
use Rattle.questions.proofs.fields.read_fields.Given as goal

abbrev pub invariant-loop-entry-2 : goal.invariant-loop-entry-2
invariant-loop-entry-2 l = ReadingActions l.s l.initial.at l.at l.n

abbrev pub decreases-loop-entry-2 : goal.decreases-loop-entry-2
decreases-loop-entry-2 l = suc max_actions - l.n

abbrev pub invariant-loop-entry : goal.invariant-loop-entry
invariant-loop-entry l = ReadingStates l.s l.states l.entry-items l.at l.entry-index l.counts
