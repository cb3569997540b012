-- The entries so far, and behind them the bytes as they were.
use Rattle.host.proofs.Bytes.{Entered}
use Rattle.host.proofs.put_table.Given as goal

abbrev pub invariant-loop-i : goal.invariant-loop-i
invariant-loop-i l = Entered l.initial.bytes l.table l.bytes l.i
