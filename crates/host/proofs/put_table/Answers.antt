-- The table's entries, one behind the other, and the zeros behind them.
use Prim.Native.Nat.{ℕ}
use native.Mathlib.Omega.{arith}
use lib.ListN.{length-take, length-drop}
use Rattle.host.proofs.Bytes.{entered-none, entered-more, entered-all}
use Rattle.host.proofs.put_table.Goals as goal

pub loop-i-init : goal.loop-i-init
loop-i-init c = entered-none c.args.bytes.now c.args.table.now

pub loop-i-preserved : goal.loop-i-preserved
loop-i-preserved c =
    entered-more c.args.bytes.now c.args.table.now _ _ c.loop-i.invariant _ c.loop-i-test.true cc

pub returns : goal.returns
returns c =
    entered-all c.args.bytes.now c.args.table.now _ _ c.loop-i.invariant _ _ _ c.loop-i-test.false (omega arith)
    (c.fill.ensures.after (λ y e. e)) (omega (arith, length-take {A = ℕ}, length-drop {A = ℕ})) c.requires
