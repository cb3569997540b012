use native.Mathlib.Omega.{arith}
use borrow.Author.Tests.{lt-ltb, le-ltb}
use Rattle.sheet.proofs.pricing.dearer.Goals as goal

pub returns-then-most-x : goal.returns-then-most-x
returns-then-most-x c =
    rw (lt-ltb c.args.most c.args.x (omega arith))

pub returns-else-most-x : goal.returns-else-most-x
returns-else-most-x c =
    rw (le-ltb c.args.most c.args.x (omega arith))
