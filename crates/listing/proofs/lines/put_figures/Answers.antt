use Rattle.sheet.proofs.Putting.{appended-behind}
use Rattle.listing.proofs.lines.put_figures.Goals as goal

pub returns-clause-appended : goal.returns-clause-appended
returns-clause-appended c =
    appended-behind c.put_field.ensures.appended
    (appended-behind c.put_field-2.ensures.appended (appended-behind c.put_field-3.ensures.appended c.bytes.ensures))
