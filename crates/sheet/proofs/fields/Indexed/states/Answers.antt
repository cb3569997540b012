use Rattle.std.proofs.Common.{arith, sym, ◌∙◌}
use Rattle.layout.proofs.Index.{states-read}
use Rattle.sheet.proofs.Laws.{head-inside}
use Rattle.sheet.proofs.fields.Indexed.states.Goals as goal

pub get16-requires : goal.get16-requires
get16-requires c = omega (arith, head-inside c.self.invariant)

pub returns-clause-number : goal.returns-clause-number
returns-clause-number c =
    rw (sym c.self.view_is) (c.from.ensures ∙ (c.get16.ensures ∙ sym (states-read c.self.inside.bytes.now)))

pub returns-clause-some : goal.returns-clause-some
returns-clause-some c =
    omega (
      arith,
      c.from.ensures,
      c.get16.ensures,
      states-read c.self.inside.bytes.now,
      c.self.invariant.shaped.some,
      c.self.invariant.shaped.most,
    )
