use mathlib.Core.Path.{sym, ap, ◌∙◌}
use native.Mathlib.Omega.{arith}
use Rattle.sheet.specs.Sheet.{IsDecision}
use Rattle.listing.specs.Put.{flagged}
use Rattle.listing.proofs.Choices.{terminal-from, decision-from}
use Rattle.listing.proofs.Reaching.{flagged-none, chosen-exists, chosen-successors, chosen-leads, no-successors}
use Rattle.listing.proofs.plan.reach_on.Goals as goal
use Rattle.listing.proofs.plan.reach_on.Goals.{Then-not-is_terminal}

-- the state is a decision
decided : (c : Then-not-is_terminal) → IsDecision c.args.sheet.now c.args.state
decided c = decision-from c.requires.state_bound.0 c.is_terminal.ensures c.if-not-is_terminal.true

pub chosen_action-requires-clause-state_in_bounds : goal.chosen_action-requires-clause-state_in_bounds
chosen_action-requires-clause-state_in_bounds c = chosen-exists (decided c) c.requires.chooses

pub flag_all-requires : goal.flag_all-requires
flag_all-requires c =
    let d = decided (goal.at.flag_all-requires c).Then-not-is_terminal in
    λ j lt. omega (arith, chosen-leads d c.chosen_action.ensures.is c.requires.listable.formed j lt, c.requires.state_bound.1)

pub returns-then-not-is_terminal : goal.returns-then-not-is_terminal
returns-then-not-is_terminal c =
    let d = decided (goal.at.returns-then-not-is_terminal c).Then-not-is_terminal in
    c.flag_all.ensures ∙ ap (flagged _) (chosen-successors d c.chosen_action.ensures.is)

pub returns-else-not-is_terminal : goal.returns-else-not-is_terminal
returns-else-not-is_terminal c =
    let end = terminal-from c.requires.state_bound.0 c.is_terminal.ensures c.if-not-is_terminal.false in
    sym (ap (flagged _) (no-successors end) ∙ flagged-none _)
