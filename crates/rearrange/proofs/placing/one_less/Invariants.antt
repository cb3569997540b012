use Rattle.rearrange.proofs.Places.{Lowered}
use Rattle.rearrange.proofs.placing.one_less.Given as goal

abbrev pub invariant-loop-w : goal.invariant-loop-w
invariant-loop-w l = Lowered l.n l.initial.w-items l.w-items l.w-index
