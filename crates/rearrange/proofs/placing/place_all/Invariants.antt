use Rattle.model.specs.Read.{problem_of}
use Rattle.rearrange.proofs.Run.{Run}
use Rattle.rearrange.proofs.placing.place_all.Given as goal

abbrev pub invariant-loop-k : goal.invariant-loop-k
invariant-loop-k l = Run (problem_of l.sheet) l.n l.initial.waits l.initial.old l.waits l.old l.low l.k
