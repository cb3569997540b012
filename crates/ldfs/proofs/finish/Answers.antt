-- The answer, from the start's value and mark after the work.
use mathlib.Core.Path.{◌∙◌}
use Rattle.sheet.proofs.Laws.{own}
use Rattle.ldfs.proofs.Solving.{answers}
use Rattle.ldfs.proofs.finish.Goals as goal

pub new-worked-requires : goal.new-worked-requires
new-worked-requires c = own c.work-w.ensures.sheet

pub returns : goal.returns
returns c =
    let value = c.from-price.ensures ∙ rw c.new-worked.ensures at c.value.ensures in
    let mark = rw c.new-worked.ensures at c.is_solved.ensures in
    answers c.args.sheet.now _ c.work-w.ensures (rw c.new.ensures at c.start-start.ensures.number) value (c.outcome.ensures _ mark value)
