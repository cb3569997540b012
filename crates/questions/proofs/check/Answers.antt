use mathlib.Core.Path.{◌≡◌}
use native.Mathlib.Omega.{arith}
use lib.ListN.{length, replicate}
use Rattle.std.proofs.Common.{rules}
use Rattle.questions.proofs.Asking.{short-table, cleared-table}
use Rattle.questions.proofs.check.Goals as goal

pub returns-then-table-lt-MAX_STATES : goal.returns-then-table-lt-MAX_STATES
returns-then-table-lt-MAX_STATES c =
    let both = short-table c.args.sheet.now c.args.table.now (omega (arith, c.if-table-lt-MAX_STATES.true)) in
    record { answer = rw c.into.ensures both.0; table = both.1 }

pub returns-clause-table : goal.returns-clause-table
returns-clause-table c =
    let zeros : c.clear.new.table ≡ replicate (length c.args.table.now) 0 = search rules in
    let asked = rw zeros at c.ask.ensures.table in
    cleared-table c.args.sheet.now c.args.table.now _ (omega (arith, c.if-table-lt-MAX_STATES.false)) asked
