use Rattle.std.proofs.Common.{arith, ap, length}
use Rattle.sheet.proofs.Laws.{seen, terminal-cost-of}
use Rattle.sheet.proofs.fields.Indexed.terminal_cost.Goals as goal

pub overflow_add-place : goal.overflow_add-place
overflow_add-place c = omega (arith, c.place.ensures.1, ap length c.self.view_is, c.self.told.0)

pub get32-requires : goal.get32-requires
get32-requires c = omega (arith, c.place.ensures.1, ap length c.self.view_is)

pub returns : goal.returns
returns c =
    rw (c.get32.ensures, c.self.view_is, c.place.ensures.0)
    (terminal-cost-of (seen c.self.view_is c.self.invariant) _ c.requires.below c.requires.tag)
