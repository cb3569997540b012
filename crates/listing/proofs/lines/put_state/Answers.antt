use mathlib.Core.Path.{sym, ◌∙◌}
use Rattle.sheet.proofs.Putting.{appended-behind}
use Rattle.listing.proofs.lines.put_state.Goals as goal

pub returns-clause-appended : goal.returns-clause-appended
returns-clause-appended c =
    let read = c.from.ensures ∙ c.value.ensures in
    rw (sym read)
    (appended-behind c.put_field.ensures.appended
    (appended-behind c.put_choice.ensures.appended (appended-behind c.put_field-2.ensures.appended c.put_line_end.ensures.appended)))
