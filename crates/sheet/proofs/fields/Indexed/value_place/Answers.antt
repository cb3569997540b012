-- The tag of the state's field says where its value stands.
use Rattle.std.proofs.Common.{arith, ap, length}
use Rattle.sheet.proofs.Laws.{seen, place-terminal, place-decision}
use Rattle.sheet.proofs.fields.Indexed.value_place.Goals as goal

pub bounds-self-inside-at : goal.bounds-self-inside-at
bounds-self-inside-at c = omega (arith, c.place-at.ensures.1, ap length c.self.view_is)

pub overflow_add-result-else-self-at-eq-TERMINAL_TAG : goal.overflow_add-result-else-self-at-eq-TERMINAL_TAG
overflow_add-result-else-self-at-eq-TERMINAL_TAG c = omega (arith, c.place-at.ensures.1, ap length c.self.view_is, c.self.told.0)

pub returns-then-self-at-eq-TERMINAL_TAG : goal.returns-then-self-at-eq-TERMINAL_TAG
returns-then-self-at-eq-TERMINAL_TAG c =
    place-terminal (seen c.self.view_is c.self.invariant) _ c.requires _ c.place-at.ensures.0
    (rw c.self.view_is at c.if-self-at-eq-TERMINAL_TAG.true)

pub returns-else-self-at-eq-TERMINAL_TAG : goal.returns-else-self-at-eq-TERMINAL_TAG
returns-else-self-at-eq-TERMINAL_TAG c =
    place-decision (seen c.self.view_is c.self.invariant) _ c.requires _ c.place-at.ensures.0
    (rw c.self.view_is at c.if-self-at-eq-TERMINAL_TAG.false)
