-- The loop's invariant: no more entries are counted than were gone through.
use Rattle.std.proofs.Common.{◌≤◌}
use Rattle.rows.proofs.table.tally.Given as goal

abbrev pub invariant-loop-i : goal.invariant-loop-i
invariant-loop-i g l = (l.kept ≤ l.i) × (l.zeros ≤ l.i)
