use Rattle.std.proofs.Common.{arith, sym, ap, length, ◌∙◌, ◌∷◌, ◌≡◌}
use Rattle.sheet.proofs.Laws.{read-none, read-one}
use Rattle.sheet.proofs.actions.SuccessorsIterator.next.Goals as goal
use Rattle.sheet.proofs.actions.SuccessorsIterator.next.Goals.{After-from}

pub returns-then-self-lt-SUCCESSOR_BYTES-clause-steps : goal.returns-then-self-lt-SUCCESSOR_BYTES-clause-steps
returns-then-self-lt-SUCCESSOR_BYTES-clause-steps c =
    let none = sym c.self.view_is ∙ read-none c.self.inside.pairs.now c.if-self-lt-SUCCESSOR_BYTES.true in (none, none)

pub returns-clause-steps : goal.returns-clause-steps
returns-clause-steps c =
    rw (c.from.ensures, c.get16-t.ensures) (sym c.self.view_is ∙ read-one c.self.inside.pairs.now c.if-self-lt-SUCCESSOR_BYTES.false)

pub returns-clause-goes : goal.returns-clause-goes
returns-clause-goes c =
    let fewer = ap length (sym c.self.view_is ∙ read-one c.self.inside.pairs.now c.if-self-lt-SUCCESSOR_BYTES.false) in
    record { on = λ _. (tt, tt, omega (arith, fewer)); keeps = tt; rests = λ _. tt }
