use Rattle.std.proofs.Common.{arith, ap, length}
use Rattle.sheet.proofs.Laws.{place-at, place-bytes, place-content, place-count}
use Rattle.sheet.proofs.actions.Action.end.Goals as goal

pub overflow_add-result : goal.overflow_add-result
overflow_add-result c = omega (arith, place-content c.self.view_is c.self.invariant.fits, c.self.told)

pub overflow_add-self-inside : goal.overflow_add-self-inside
overflow_add-self-inside c = omega (arith, place-content c.self.view_is c.self.invariant.fits, c.self.told)

pub get16-requires : goal.get16-requires
get16-requires c = omega (arith, place-content c.self.view_is c.self.invariant.fits)

pub overflow_add-result-2 : goal.overflow_add-result-2
overflow_add-result-2 c =
    omega (arith, place-content c.self.view_is c.self.invariant.fits, c.self.told, c.get16.ensures, c.from.ensures)

pub returns : goal.returns
returns c =
    omega (
      arith,
      place-content c.self.view_is c.self.invariant.fits,
      place-count c.self.view_is c.self.invariant.fits,
      place-at c.self.view_is,
      ap length (place-bytes c.self.view_is),
      c.get16.ensures,
      c.from.ensures,
    )
