use native.Mathlib.Omega.{arith}
use borrow.Author.Tests.{lt-ltb, le-ltb}
use Rattle.model.specs.Limits.{ceiling}
use Rattle.sheet.proofs.pricing.written.Goals as goal

pub returns-then-x-lt-LONG_CEILING : goal.returns-then-x-lt-LONG_CEILING
unfolding ceiling
returns-then-x-lt-LONG_CEILING c =
    let most = c.args.most in (rw (le-ltb 1000000000 most (omega (arith, c.requires))) (omega arith), omega arith)

pub returns-then-most-gt-LONG_CEILING : goal.returns-then-most-gt-LONG_CEILING
unfolding ceiling
returns-then-most-gt-LONG_CEILING c =
    let most = c.args.most in (rw (lt-ltb 1000000000 most (omega arith)), omega arith)

pub returns-else-most-gt-LONG_CEILING : goal.returns-else-most-gt-LONG_CEILING
unfolding ceiling
returns-else-most-gt-LONG_CEILING c =
    let most = c.args.most in (rw (le-ltb 1000000000 most (omega arith)) (omega arith), omega arith)
