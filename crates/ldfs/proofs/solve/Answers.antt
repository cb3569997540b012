-- The table is cleared, and `solve_zeroed` does the rest.
use native.Mathlib.Omega.{arith}
use Rattle.ldfs.proofs.Solving.{clauses, refused-short, all-from-zeros}
use Rattle.ldfs.proofs.solve.Goals as goal

pub returns-then-table-lt-MAX_STATES : goal.returns-then-table-lt-MAX_STATES
returns-then-table-lt-MAX_STATES c =
    clauses (refused-short _ _ _ (omega (arith, c.if-table-lt-MAX_STATES.true)) _ (rw c.number.ensures at c.refusal.ensures))

pub returns : goal.returns
returns c =
    let zeroed = rw (c.fill.ensures.after (λ _ e. e)) at c.solve_zeroed.ensures in
    clauses (all-from-zeros _ _ _ (omega (arith, c.if-table-lt-MAX_STATES.false)) (zeroed.answer, (zeroed.sheet, zeroed.table)))
