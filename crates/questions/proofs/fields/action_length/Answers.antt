use mathlib.Core.Path.{◌≡◌, ◌∙◌}
use native.Mathlib.Omega.{arith}
use mathlib.Core.Logic.{⊎_elim}
use Prim.Native.Nat.{◌+◌}
use Rattle.model.specs.Format.{be16}
use Rattle.questions.proofs.Reading.{action-short, action-low, action-high, action-odd, action-cut, action-whole}
use Rattle.questions.proofs.fields.action_length.Goals as goal
use Rattle.questions.proofs.fields.action_length.Goals.{After-from-n}
use Rattle.questions.proofs.fields.action_length.Goals.{then-n-ne0-via-then-n-ne0, then-n-ne0-via-else-n-ne0+then-s-at-2}

-- the length of its content
long : (c : After-from-n) → c.from-n.result ≡ be16 c.args.s.now (c.args.at + 1)
long c = c.from-n.ensures ∙ c.get16.ensures

pub returns-then-s-at-clause-value : goal.returns-then-s-at-clause-value
returns-then-s-at-clause-value c = action-short c.args.s.now c.args.at c.if-s-at.true

pub returns-then-n-lt-MIN_ACTION_LENGTH-clause-value : goal.returns-then-n-lt-MIN_ACTION_LENGTH-clause-value
returns-then-n-lt-MIN_ACTION_LENGTH-clause-value c =
    let n = long (goal.at.returns-then-n-lt-MIN_ACTION_LENGTH-clause-value c).After-from-n in
    ⊎_elim (λ low. action-low c.args.s.now c.args.at _ c.requires.0 n low)
    (λ high. action-high c.args.s.now c.args.at _ c.requires.0 n high.0 high.1) c.then-n-lt-MIN_ACTION_LENGTH.either

pub returns-then-n-ne0-clause-value : goal.returns-then-n-ne0-clause-value
returns-then-n-ne0-clause-value c =
    let n = long (goal.at.returns-then-n-ne0-clause-value c).After-from-n in
    elim c.then-n-ne0.branch [
      | then-n-ne0-via-then-n-ne0 w ↦ action-odd c.args.s.now c.args.at _ c.requires.0 n (omega arith) (omega arith) w.if-n-ne0.true
      | then-n-ne0-via-else-n-ne0+then-s-at-2 w ↦
          action-cut c.args.s.now c.args.at _ c.requires.0 n (omega arith) (omega arith) w.if-n-ne0.false w.if-s-at-2.true
    ]

pub returns-clause-value : goal.returns-clause-value
returns-clause-value c =
    let n = long (goal.at.returns-clause-value c).After-from-n in
    action-whole c.args.s.now c.args.at _ c.requires.0 n (omega arith) (omega arith) c.if-n-ne0.false c.if-s-at-2.false
