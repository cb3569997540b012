use mathlib.Core.Path.{◌∙◌}
use Rattle.listing.proofs.Choices.{terminal-from, decision-from, appended-end, appended-check}
use Rattle.listing.proofs.lines.put_choice.Goals as goal

pub returns-then-is_terminal-clause-appended : goal.returns-then-is_terminal-clause-appended
returns-then-is_terminal-clause-appended c =
    appended-end _ (terminal-from c.requires.state_bound c.is_terminal.ensures c.if-is_terminal.true) c.bytes.ensures

pub returns-else-is_terminal-clause-appended : goal.returns-else-is_terminal-clause-appended
returns-else-is_terminal-clause-appended c =
    appended-check _ (decision-from c.requires.state_bound c.is_terminal.ensures c.if-is_terminal.false) _
    (c.from.ensures ∙ c.chosen.ensures) c.put_field.ensures.appended
