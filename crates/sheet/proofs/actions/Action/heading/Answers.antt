use Prim.Native.Nat.{◌+◌, ◌-◌}
use mathlib.Core.Path.{◌≡◌, refl}
use native.Mathlib.Omega.{arith}
use Rattle.sheet.proofs.Laws.{place-at, place-bytes, place-content}
use Rattle.sheet.proofs.actions.Action.heading.Goals as goal

pub overflow_add-result : goal.overflow_add-result
overflow_add-result c = omega (arith, place-content c.self.view_is c.self.invariant.fits, c.self.told)

pub slice_bounds-result-end : goal.slice_bounds-result-end
slice_bounds-result-end c = omega (arith, place-content c.self.view_is c.self.invariant.fits)

pub returns : goal.returns
returns c =
    let seven : c.self.inside.at + 7 - c.self.inside.at ≡ 7 = omega arith in
    rw (seven, place-at c.self.view_is, place-bytes c.self.view_is) refl
