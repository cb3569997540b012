use mathlib.Core.Path.{sym}
use Rattle.sheet.proofs.Putting.{appended-behind}
use Rattle.listing.proofs.lines.put_refused.Goals as goal

pub returns-clause-appended : goal.returns-clause-appended
returns-clause-appended c = rw (sym c.from.ensures) (appended-behind c.put_field.ensures.appended c.bytes.ensures)
