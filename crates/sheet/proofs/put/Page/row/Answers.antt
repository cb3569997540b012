use native.Mathlib.Omega.{arith}
use Rattle.sheet.proofs.Putting.{rowing_start, rowing-room, rowing-next}
use Rattle.sheet.proofs.put.Page.row.Goals as goal

pub loop-x-init : goal.loop-x-init
loop-x-init c = rowing_start _ _ (omega (arith, c.requires.room))

pub number-requires : goal.number-requires
number-requires c =
    (c.requires.by_index _ c.loop-x-test.true, rowing-room c.loop-x.invariant c.loop-x-test.true c.requires.room)

pub loop-x-preserved : goal.loop-x-preserved
loop-x-preserved c = rowing-next c.loop-x.invariant c.loop-x-test.true c.number.ensures
