use Rattle.std.proofs.Common.{arith, rules, ◌≡◌, ◌∙◌}
use Rattle.model.specs.Tests.{all}
use Rattle.questions.proofs.Stepping.{cost_fits, counting-begins, counting-stands, counting-more, counting-out, counting-ends}
use Rattle.questions.proofs.states.count_in_range.Goals as goal

pub loop-action-init : goal.loop-action-init
loop-action-init c =
    let w = c.actions-action-items.ensures in
    rw c.into_iter-action-iterator.ensures.into_iter_gives (counting-begins w.0 w.1 w.2)

pub returns-then-not-contains : goal.returns-then-not-contains
unfolding all
returns-then-not-contains c =
    let tested : cost_fits c.cost.result ≡ c.contains.result = search rules in
    counting-out c.loop-action.invariant c.in-Some.ensures.steps c.requires.tag c.cost.ensures (tested ∙ c.if-not-contains.true)

pub overflow_add-n : goal.overflow_add-n
overflow_add-n c =
    omega (arith, counting-stands c.loop-action.invariant c.in-Some.ensures.steps, c.actions-action-items.ensures)

pub loop-action-preserved : goal.loop-action-preserved
unfolding all
loop-action-preserved c =
    let tested : cost_fits c.cost.result ≡ c.contains.result = search rules in
    counting-more c.loop-action.invariant c.in-Some.ensures.steps c.cost.ensures (tested ∙ c.if-not-contains.false)

pub returns : goal.returns
returns c = counting-ends c.loop-action.invariant c.requires.tag c.in-None.ensures.steps.0
