use Rattle.rearrange.specs.Turning.{Marked}
use Rattle.rearrange.proofs.placing.mark_places.Given as goal

abbrev pub invariant-loop-i : goal.invariant-loop-i
invariant-loop-i l = Marked l.list l.n l.i l.initial.new l.new
