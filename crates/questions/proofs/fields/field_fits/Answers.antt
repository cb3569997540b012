use mathlib.Core.Path.{◌∙◌}
use borrow.Author.Tests.{lt-leb}
use Rattle.questions.proofs.Reading.{field-here, field_cut}
use Rattle.questions.proofs.fields.field_fits.Goals as goal

pub returns-then-at-n : goal.returns-then-at-n
returns-then-at-n c =
    let is = c.from.ensures ∙ c.get16.ensures in
    field-here c.args.s.now c.args.at _ c.requires.0 is c.args.n c.if-at-n.true

pub returns-else-at-n : goal.returns-else-at-n
returns-else-at-n c =
    rw (lt-leb _ _ c.if-at-n.false) (field_cut c.args.s.now c.args.at c.args.n c.if-at-n.false)
