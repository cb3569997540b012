use Rattle.model.specs.Questions.{apart}
use Rattle.questions.proofs.states.in_order.Goals as goal

pub returns-in-Worst : goal.returns-in-Worst
unfolding apart
returns-in-Worst c =
    rw (← c.in-Worst.ensures, ← c.states-n.ensures.number, ← c.lowest_of-low.ensures) c.in_steps.ensures

pub returns-in-Whole : goal.returns-in-Whole
unfolding apart
returns-in-Whole c =
    rw (← c.in-Whole.ensures, ← c.states-n.ensures.number, ← c.lowest_of-low.ensures) c.in_steps-in-Whole.ensures
