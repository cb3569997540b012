-- The tag of the state's field and the second byte of its length say where it ends.
use Rattle.std.proofs.Common.{arith, ap, length, ◌∙◌}
use Rattle.sheet.proofs.Laws.{seen, first-of-plain, first-by-length}
use Rattle.sheet.proofs.fields.Indexed.first_action.Goals as goal

pub bounds-self-inside-at : goal.bounds-self-inside-at
bounds-self-inside-at c = omega (arith, c.place-at.ensures.1, ap length c.self.view_is)

pub overflow_add-at : goal.overflow_add-at
overflow_add-at c = omega (arith, c.place-at.ensures.1, ap length c.self.view_is, c.self.told.0)

pub overflow_add-result-else-self-at-eq-PLAIN_TAG : goal.overflow_add-result-else-self-at-eq-PLAIN_TAG
overflow_add-result-else-self-at-eq-PLAIN_TAG c = omega (arith, c.place-at.ensures.1, ap length c.self.view_is, c.self.told.0)

pub bounds-self-inside-at-else-self-at-eq-PLAIN_TAG : goal.bounds-self-inside-at-else-self-at-eq-PLAIN_TAG
bounds-self-inside-at-else-self-at-eq-PLAIN_TAG c = omega (arith, c.place-at.ensures.1, ap length c.self.view_is)

pub returns-then-self-at-eq-PLAIN_TAG : goal.returns-then-self-at-eq-PLAIN_TAG
returns-then-self-at-eq-PLAIN_TAG c =
    first-of-plain (seen c.self.view_is c.self.invariant) _ c.requires.below c.requires.tag _ c.place-at.ensures.0
    (rw c.self.view_is at c.if-self-at-eq-PLAIN_TAG.true)

pub returns-else-self-at-eq-PLAIN_TAG : goal.returns-else-self-at-eq-PLAIN_TAG
returns-else-self-at-eq-PLAIN_TAG c =
    first-by-length (seen c.self.view_is c.self.invariant) _ c.requires.below c.requires.tag _ _ c.place-at.ensures.0
    (rw c.self.view_is at c.from.ensures)
