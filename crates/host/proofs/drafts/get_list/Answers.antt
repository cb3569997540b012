use native.Mathlib.Omega.{arith}
use Rattle.host.proofs.Numbers.{got-none, got-more}
use Rattle.host.proofs.drafts.get_list.Goals as goal

pub loop-i-init : goal.loop-i-init
loop-i-init c = got-none _ c.args.numbers.now

pub loop-i-preserved : goal.loop-i-preserved
loop-i-preserved c =
    got-more c.args.bytes.now c.loop-i.numbers _ c.loop-i.invariant (omega arith) (omega arith) _ _
    c.as_chunks.ensures.front c.from_le_bytes.ensures
