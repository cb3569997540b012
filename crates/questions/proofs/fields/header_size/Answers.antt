use mathlib.Core.Path.{◌∙◌, sym}
use Rattle.std.proofs.Common.{rules}
use Rattle.questions.proofs.Reading.{header-plain, header-counted, header-other}
use Rattle.questions.proofs.fields.header_size.Goals as goal
use Rattle.questions.proofs.fields.header_size.Goals.{in-3, in-5}

pub returns-in_default-clause-value : goal.returns-in_default-clause-value
returns-in_default-clause-value c = header-other c.args.s.now c.args.at (search rules) (search rules)

pub returns-clause-value : goal.returns-clause-value
returns-clause-value c =
    c.then_some.ensures ∙ elim c.match-byte_at.branch [
      | in-3 w ↦ rw w.n-is (header-plain c.args.s.now c.args.at (sym c.byte_at.ensures ∙ w.in-3.is) _ (rw w.n-is at c.field_fits.ensures))
      | in-5 w ↦ rw w.n-is (header-counted c.args.s.now c.args.at (sym c.byte_at.ensures ∙ w.in-5.is) _ (rw w.n-is at c.field_fits.ensures))
    ]
