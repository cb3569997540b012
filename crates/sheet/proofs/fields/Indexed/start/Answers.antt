use Rattle.std.proofs.Common.{arith, sym, ◌∙◌}
use Rattle.sheet.proofs.Laws.{head-inside, start-read}
use Rattle.sheet.proofs.fields.Indexed.start.Goals as goal

pub get16-requires : goal.get16-requires
get16-requires c = omega (arith, head-inside c.self.invariant)

pub returns-clause-number : goal.returns-clause-number
returns-clause-number c =
    rw (sym c.self.view_is) (c.from.ensures ∙ (c.get16.ensures ∙ start-read c.self.inside.bytes.now))

pub returns-clause-below : goal.returns-clause-below
returns-clause-below c =
    rw (sym c.self.view_is)
    (omega (arith, c.from.ensures, c.get16.ensures, start-read c.self.inside.bytes.now, c.self.invariant.shaped.start))
