use Rattle.sheet.proofs.Putting.{Rowing}
use Rattle.sheet.proofs.put.Page.row.Given as goal

abbrev pub invariant-loop-x : goal.invariant-loop-x
invariant-loop-x l = Rowing l.row l.initial.self l.self l.x-index
