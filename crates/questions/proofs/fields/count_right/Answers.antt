use mathlib.Core.Path.{sym}
use borrow.Author.Tests.{ne_eqb}
use Rattle.questions.proofs.Reading.{tag-inside, count-inside, count-counted, count-plain}
use Rattle.questions.proofs.fields.count_right.Goals as goal

pub bounds-s-at : goal.bounds-s-at
bounds-s-at c =
    tag-inside _ _ c.requires.at_in_bounds.0 c.requires.s_value

pub bounds-s-at-else-s-at-ne-COUNTED_TAG : goal.bounds-s-at-else-s-at-ne-COUNTED_TAG
bounds-s-at-else-s-at-ne-COUNTED_TAG c =
    count-inside _ _ c.requires.at_in_bounds.0 c.requires.s_value c.if-s-at-ne-COUNTED_TAG.false

pub returns-then-s-at-ne-COUNTED_TAG : goal.returns-then-s-at-ne-COUNTED_TAG
returns-then-s-at-ne-COUNTED_TAG c =
    let other = c.if-s-at-ne-COUNTED_TAG.true in
    rw (ne_eqb _ _ other) (sym (count-plain _ _ c.requires.at_in_bounds.0 c.requires.s_value other c.args.n))

pub returns-else-s-at-ne-COUNTED_TAG : goal.returns-else-s-at-ne-COUNTED_TAG
returns-else-s-at-ne-COUNTED_TAG c =
    let tag = c.if-s-at-ne-COUNTED_TAG.false in
    sym (count-counted _ _ c.requires.at_in_bounds.0 c.requires.s_value tag _ c.args.n c.from.ensures)
