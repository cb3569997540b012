use Rattle.std.proofs.Common.{arith, sym, refl, ◌∙◌}
use Rattle.sheet.proofs.Laws.{walk-few, walk-ends, walk-more, walk-fits, walk-comes, walk-on}
use Rattle.sheet.proofs.actions.ActionsIterator.next.Goals as goal

pub new-action-requires : goal.new-action-requires
new-action-requires c = walk-fits c.self.invariant (sym c.action_here.ensures ∙ c.if-action_here.true)

pub overflow_add-self : goal.overflow_add-self
overflow_add-self c = omega (arith, c.self.invariant.upto, walk-few c.self.invariant)

pub invariant_of-self : goal.invariant_of-self
invariant_of-self c =
    walk-on c.self.invariant (sym c.action_here.ensures ∙ c.if-action_here.true) _
    (rw (c.new-action.ensures.0, c.new-action.ensures.1) at c.end-self-inside.ensures.0)

pub returns-then-action_here-clause-steps : goal.returns-then-action_here-clause-steps
returns-then-action_here-clause-steps c =
    rw (sym c.self.view_is)
    (walk-comes c.self.invariant (sym c.action_here.ensures ∙ c.if-action_here.true) c.new-action.ensures.0 c.new-action.ensures.1)

pub returns-then-action_here-clause-goes : goal.returns-then-action_here-clause-goes
returns-then-action_here-clause-goes c =
    let more = walk-more c.self.invariant (sym c.action_here.ensures ∙ c.if-action_here.true) in
    rw (sym c.self.view_is) (record { on = λ _. (tt, tt, omega (arith, more)); keeps = tt; rests = λ _. tt })

pub returns-else-action_here-clause-steps : goal.returns-else-action_here-clause-steps
returns-else-action_here-clause-steps c =
    (rw (sym c.self.view_is) (walk-ends c.self.invariant (sym c.action_here.ensures ∙ c.if-action_here.false)), refl)
