-- A raise, a halt, or the same value or a smaller one.
use native.Mathlib.Omega.{arith}
use Rattle.search.proofs.Updates.{did-raise, did-halt, did-store}
use Rattle.search.proofs.visits.update.Goals as goal

pub returns-then-raises-budget : goal.returns-then-raises-budget
returns-then-raises-budget c =
    λ t p i g. did-raise g _ _ _ (omega arith) (omega arith) c.set32.ensures

pub returns-else-raises-budget : goal.returns-else-raises-budget
returns-else-raises-budget c = λ t p i g. did-halt g _ _ _ (omega arith) (omega arith)

pub returns-else-value-x : goal.returns-else-value-x
returns-else-value-x c = λ t p i g. did-store g _ _ _ (omega arith) c.set32-else-value-x.ensures
