use Rattle.std.proofs.Common.{arith}
use Rattle.questions.proofs.Stepping.{rising-begins, rising-out, rising-more, rising-ends}
use Rattle.questions.proofs.states.ascending.Goals as goal

pub loop-t-init : goal.loop-t-init
loop-t-init c =
    rw (c.into_iter-t-iterator.ensures.into_iter_gives, c.successors-t-items.ensures.0)
    (rising-begins _ _ _ _ c.successors-t-items.ensures.1)

pub returns-then-t-least : goal.returns-then-t-least
returns-then-t-least c = rising-out c.loop-t.invariant c.in-Some.ensures.steps c.if-t-least.true

pub loop-t-preserved : goal.loop-t-preserved
loop-t-preserved c =
    rising-more c.loop-t.invariant c.in-Some.ensures.steps c.if-t-least.false (omega arith) (λ lt. omega arith)

pub returns : goal.returns
returns c = rising-ends c.loop-t.invariant c.in-None.ensures.steps.0
