use Rattle.std.proofs.Common.{arith, ap, length}
use Rattle.sheet.proofs.Laws.{seen, mark_of}
use Rattle.sheet.proofs.fields.Indexed.mark.Goals as goal

pub overflow_add-result : goal.overflow_add-result
overflow_add-result c = omega (arith, c.value_place.ensures.1, ap length c.self.view_is, c.self.told.0)

pub returns : goal.returns
returns c =
    rw (c.self.view_is, c.value_place.ensures.0) (mark_of (seen c.self.view_is c.self.invariant) _ c.requires)
