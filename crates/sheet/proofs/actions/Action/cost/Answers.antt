use Rattle.std.proofs.Common.{arith, ap, ◌∙◌, sym}
use Rattle.layout.proofs.Actions.{cost-of}
use Rattle.model.specs.Problem.{Action}
use Rattle.sheet.proofs.Laws.{place-content, place-says}
use Rattle.sheet.proofs.actions.Action.cost.Goals as goal

pub overflow_add-self-inside : goal.overflow_add-self-inside
overflow_add-self-inside c = omega (arith, place-content c.self.view_is c.self.invariant.fits, c.self.told)

pub get32-requires : goal.get32-requires
get32-requires c = omega (arith, place-content c.self.view_is c.self.invariant.fits)

pub returns : goal.returns
returns c =
    c.get32.ensures ∙ sym (cost-of c.self.inside.bytes.now c.self.inside.at c.self.invariant.fits) ∙
    ap (λ (a : Action). a.cost) (place-says c.self.view_is)
