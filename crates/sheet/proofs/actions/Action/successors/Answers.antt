use Rattle.std.proofs.Common.{arith, ap, sym, ◌∙◌, ◌≡◌, ◌+◌}
use Rattle.model.specs.Problem.{Action}
use Rattle.model.specs.Format.{be16}
use Rattle.sheet.proofs.Laws.{place-at, place-content, place-count, place-says, successors-small, successors-there}
use Rattle.sheet.proofs.actions.Action.successors.Goals as goal

pub overflow_add-result : goal.overflow_add-result
overflow_add-result c = omega (arith, place-content c.self.view_is c.self.invariant.fits, c.self.told)

pub returns : goal.returns
returns c =
    let bs = c.self.inside.bytes.now in
    let o = c.self.inside.at in
    let fits = c.self.invariant.fits in
    let n = place-count c.self.view_is fits in
    let same = ap (λ (a : Action). a.successors) (place-says c.self.view_is) in
    let e : c.end.result ≡ o + 3 + be16 bs (o + 1) = omega (arith, n, place-at c.self.view_is, c.end.ensures) in (
      successors-there bs o fits c.end.result e ∙ same,
      n.0,
      n.1,
      rw (sym same) (successors-small bs o fits c.self.invariant.byte),
    )
