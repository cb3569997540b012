use Rattle.std.proofs.Common.{arith, ap, length, refl}
use Rattle.sheet.proofs.Laws.{seen, tag-of}
use Rattle.sheet.proofs.fields.Indexed.is_terminal.Goals as goal

pub bounds-self-inside-place : goal.bounds-self-inside-place
bounds-self-inside-place c = omega (arith, c.place.ensures.1, ap length c.self.view_is)

pub returns : goal.returns
returns c =
    rw (c.self.view_is, c.place.ensures.0, tag-of (seen c.self.view_is c.self.invariant) _ c.requires) refl
