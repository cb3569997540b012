-- The fresh price where it is the least, else all are priced.
use native.Mathlib.Omega.{arith}
use Rattle.theory.proofs.QValueLaws.{q-small}
use Rattle.search.proofs.Keeping.{keeps-least}
use Rattle.search.proofs.kept.least_kept.Goals as goal

pub returns-then-kept : goal.returns-then-kept
returns-then-kept c =
    keeps-least c.requires.keeps c.requires.some (q-small _ _) (omega arith)
