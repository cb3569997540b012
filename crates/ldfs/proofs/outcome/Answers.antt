use Rattle.ldfs.proofs.Solving.{settled, no_complete_plan, over, stopped}
use Rattle.ldfs.proofs.outcome.Goals as goal

pub returns-then-price-lt-LONG_CEILING : goal.returns-then-price-lt-LONG_CEILING
returns-then-price-lt-LONG_CEILING c = λ x mark value. settled x mark value c.if-marked.true c.if-price-lt-LONG_CEILING.true

pub returns-then-price-gt-LONG_CEILING : goal.returns-then-price-gt-LONG_CEILING
returns-then-price-gt-LONG_CEILING c = λ x mark value. no_complete_plan x mark value c.if-marked.true c.if-price-lt-LONG_CEILING.false
    c.if-price-gt-LONG_CEILING.true

pub returns-else-price-gt-LONG_CEILING : goal.returns-else-price-gt-LONG_CEILING
returns-else-price-gt-LONG_CEILING c = λ x mark value. over x mark value c.if-marked.true c.if-price-lt-LONG_CEILING.false
    c.if-price-gt-LONG_CEILING.false

pub returns-else-marked : goal.returns-else-marked
returns-else-marked c = λ x mark value. stopped x mark value c.if-marked.false
