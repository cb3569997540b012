use mathlib.Core.Path.{refl}
use Rattle.rearrange.proofs.Rows.{in_front}
use Rattle.rearrange.proofs.Places.{marked_start, marked-hit, marked-miss}
use Rattle.rearrange.proofs.placing.mark_places.Goals as goal
use Rattle.rearrange.proofs.placing.mark_places.Goals.{then-t-n, else-t-n}

pub loop-i-init : goal.loop-i-init
loop-i-init c = marked_start _ _ _ c.requires.by_index

pub loop-i-preserved : goal.loop-i-preserved
loop-i-preserved c =
    let (long, wide, _) = c.requires.n_in_bounds in
    let (left, same) = in_front c.args.n c.args.list.now c.loop-i.i long c.loop-i-test.true in
    elim c.if-t-n.branch [
      | then-t-n w ↦ rw w.new-is (marked-hit c.loop-i.invariant long left wide _ _ same w.if-t-n.true refl)
      | else-t-n w ↦ rw w.new-is (marked-miss c.loop-i.invariant long left _ same w.if-t-n.false)
    ]
