use mathlib.Core.Path.{◌≡◌, ◌∙◌}
use native.Mathlib.Omega.{arith}
use Rattle.model.specs.Format.{be16}
use Rattle.questions.proofs.Reading.{head-tag, head-length, head-kind, head-none, head-many, head-start}
use Rattle.questions.proofs.head_in_place.Goals as goal
use Rattle.questions.proofs.head_in_place.Goals.{then-s-wanted-via-then-s-wanted, then-s-wanted-via-else-s-wanted+then-from-ne-HEAD_LENGTH}
use Rattle.questions.proofs.head_in_place.Goals.{then-n-lt1-via-then-n-lt1, then-n-lt1-via-else-n-lt1+then-from-limit}

pub returns-then-s-wanted : goal.returns-then-s-wanted
returns-then-s-wanted c =
    elim c.then-s-wanted.branch [
      | then-s-wanted-via-then-s-wanted w ↦ head-tag c.args.wanted c.args.limit c.args.s.now c.requires w.if-s-wanted.true
      | then-s-wanted-via-else-s-wanted+then-from-ne-HEAD_LENGTH w ↦
          head-length c.args.wanted c.args.limit c.args.s.now c.requires w.if-s-wanted.false
          (λ e. w.if-from-ne-HEAD_LENGTH.true (w.from.ensures ∙ w.get16.ensures ∙ e))
    ]

pub returns-then-s-gt-WHOLE : goal.returns-then-s-gt-WHOLE
returns-then-s-gt-WHOLE c =
    head-kind c.args.wanted c.args.limit c.args.s.now c.requires c.if-s-wanted.false
    (omega (arith, c.get16.ensures, c.from.ensures)) c.if-s-gt-WHOLE.true

pub returns-then-n-lt1 : goal.returns-then-n-lt1
returns-then-n-lt1 c =
    let five : be16 c.args.s.now 1 ≡ 5 = omega (arith, c.get16.ensures, c.from.ensures) in
    elim c.then-n-lt1.branch [
      | then-n-lt1-via-then-n-lt1 w ↦
          head-none c.args.wanted c.args.limit c.args.s.now c.requires c.if-s-wanted.false five c.if-s-gt-WHOLE.false
          (omega (arith, c.get16-n.ensures, w.if-n-lt1.true))
      | then-n-lt1-via-else-n-lt1+then-from-limit w ↦
          head-many c.args.wanted c.args.limit c.args.s.now c.requires c.if-s-wanted.false five c.if-s-gt-WHOLE.false
          (omega (arith, c.get16-n.ensures, w.if-n-lt1.false))
          (omega (arith, c.get16-n.ensures, w.from-else-n-lt1.ensures, w.if-from-limit.true))
    ]

pub returns : goal.returns
returns c =
    let five : be16 c.args.s.now 1 ≡ 5 = omega (arith, c.get16.ensures, c.from.ensures) in
    rw (c.get16-2.ensures, c.get16-n.ensures) (
    head-start c.args.wanted c.args.limit c.args.s.now c.requires c.if-s-wanted.false five c.if-s-gt-WHOLE.false
    (omega (arith, c.get16-n.ensures)) (omega (arith, c.get16-n.ensures, c.from-else-n-lt1.ensures))
    )
