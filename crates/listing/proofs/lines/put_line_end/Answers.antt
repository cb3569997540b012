use mathlib.Core.Path.{ap, ◌∙◌}
use Rattle.model.specs.Problem.{value_of}
use Rattle.model.specs.Read.{cells_of}
use Rattle.model.specs.QValue.{dearest}
use Rattle.sheet.specs.Sheet.{IsDecision}
use Rattle.listing.proofs.Choices.{terminal-from, decision-from, appended-newline, appended_by}
use Rattle.listing.proofs.Reaching.{chosen-exists, chosen-successors, chosen-leads}
use Rattle.sheet.proofs.Putting.{appended-behind}
use Rattle.listing.proofs.lines.put_line_end.Goals as goal
use Rattle.listing.proofs.lines.put_line_end.Goals.{Then-not-is_terminal, then-not-is_terminal, else-not-is_terminal}

-- the state is a decision
decided : (c : Then-not-is_terminal) → IsDecision c.args.sheet.now c.args.state
decided c = decision-from c.requires.state_bound c.is_terminal.ensures c.if-not-is_terminal.true

pub chosen_action-requires-clause-state_in_bounds : goal.chosen_action-requires-clause-state_in_bounds
chosen_action-requires-clause-state_in_bounds c = chosen-exists (decided c) c.requires.chooses

pub price-x-requires : goal.price-x-requires
price-x-requires c =
    chosen-leads (decided (goal.at.price-x-requires c).Then-not-is_terminal) c.chosen_action.ensures.is c.requires.listable.formed

pub returns-clause-appended : goal.returns-clause-appended
returns-clause-appended c =
    elim c.if-not-is_terminal.branch [
      | then-not-is_terminal w ↦
          let d = decision-from c.requires.state_bound c.is_terminal.ensures w.if-not-is_terminal.true in
          let found = chosen-successors d w.chosen_action.ensures.is in
          let named = w.price-x.ensures.2 ∙ ap (dearest (value_of (cells_of c.args.sheet.now))) found in
          appended_by d named (appended-behind w.put_field.ensures.appended (rw w.page-is at c.bytes.ensures))
      | else-not-is_terminal w ↦
          appended-newline (terminal-from c.requires.state_bound c.is_terminal.ensures w.if-not-is_terminal.false) _
          (rw w.page-is at c.bytes.ensures)
    ]
