use Rattle.model.specs.Read.{problem_of}
use Rattle.rearrange.proofs.Tally.{Census}
use Rattle.rearrange.proofs.placing.count_all.Given as goal

abbrev pub invariant-loop-s : goal.invariant-loop-s
invariant-loop-s l = Census (problem_of l.sheet) l.initial.waits l.waits l.s
