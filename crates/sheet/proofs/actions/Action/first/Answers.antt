use Rattle.std.proofs.Common.{arith, ap, get_or, ◌≡◌, ◌+◌, ◌*◌, ◌∙◌, sym}
use Rattle.layout.proofs.Actions.{successor-of}
use Rattle.model.specs.Problem.{Action}
use Rattle.sheet.proofs.Laws.{place-content, place-count, place-says, some-successor}
use Rattle.sheet.proofs.actions.Action.first.Goals as goal

pub overflow_add-self-inside : goal.overflow_add-self-inside
overflow_add-self-inside c =
    omega (arith, place-content c.self.view_is c.self.invariant.fits, place-count c.self.view_is c.self.invariant.fits, c.self.told)

pub get16-requires : goal.get16-requires
get16-requires c = omega (arith, place-content c.self.view_is c.self.invariant.fits, place-count c.self.view_is c.self.invariant.fits)

pub returns : goal.returns
returns c =
    let bs = c.self.inside.bytes.now in
    let o = c.self.inside.at in
    let at : o + 7 + 2 * 0 ≡ o + 7 = omega arith in
    let first = rw at at (successor-of bs o c.self.invariant.fits 0 (some-successor bs o c.self.invariant.fits)) in (
      c.from.ensures ∙ (c.get16.ensures ∙ sym first) ∙ ap (λ (a : Action). get_or a.successors 0 0) (place-says c.self.view_is),
      omega (arith, c.from.ensures),
    )
