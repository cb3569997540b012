use mathlib.Core.Path.{sym}
use Rattle.questions.specs.Put.{mark_at}
use Rattle.questions.proofs.Putting.{chosen-exists}
use Rattle.questions.proofs.states.mark_in_order.Goals as goal

pub mark_earned-requires-clause-chosen_exists : goal.mark_earned-requires-clause-chosen_exists
mark_earned-requires-clause-chosen_exists c =
    chosen-exists _ _ c.requires.ranges _ c.requires.below (sym c.if-not-is_solved.ensures)

pub returns-then-not-is_solved : goal.returns-then-not-is_solved
unfolding mark_at
returns-then-not-is_solved c = rw (sym c.if-not-is_solved.ensures, c.if-not-is_solved.true)

pub returns-else-not-is_solved : goal.returns-else-not-is_solved
unfolding mark_at
returns-else-not-is_solved c = rw (sym c.if-not-is_solved.ensures) c.mark_earned.ensures
