use Prim.Native.Nat.{◌<◌}
use mathlib.Core.Path.{◌≡◌, sym, ◌∙◌}
use borrow.Author.Tests.{eqb-true, eqb-false, ltb-true, ltb-false, ne_eqb}
use lib.ListN.{length}
use Rattle.model.specs.Problem.{node_at}
use Rattle.model.specs.Read.{problem_of}
use Rattle.model.specs.Format.{terminal_tag, tag_of}
use Rattle.sheet.specs.Sheet.{Leads}
use Rattle.sheet.proofs.Laws.{actions_at}
use Rattle.questions.proofs.Stepping.{inside-below}
use Rattle.questions.proofs.Ranges.{earned-terminal, earned-barren, earned-decision, unearned}
use Rattle.questions.proofs.states.mark_earned.Goals as goal
use Rattle.questions.proofs.states.mark_earned.Goals.{After-chosen_action-action, Else-is_terminal, Then-has_action}

-- the state is a decision
decided : (c : Else-is_terminal) → tag_of (node_at (problem_of c.args.sheet.now) c.args.state) ≡ terminal_tag → ⊥
decided c = eqb-false _ _ (sym c.is_terminal.ensures ∙ c.if-is_terminal.false)

-- it has an action
acted : (c : Then-has_action) → 0 < length (actions_at (problem_of c.args.sheet.now) c.args.state)
acted c = ltb-true _ _ (sym c.has_action.ensures ∙ c.if-has_action.true)

-- the successors of its chosen action are states
leads : (c : After-chosen_action-action) → Leads c.args.sheet.now c.chosen_action-action.result
leads c =
    let tag = eqb-false _ _ (sym c.is_terminal.ensures ∙ c.if-is_terminal.false) in
    rw c.chosen_action-action.ensures.is (inside-below (problem_of c.args.sheet.now) c.args.state tag c.requires.inside _)

pub returns-then-is_terminal : goal.returns-then-is_terminal
returns-then-is_terminal c =
    rw (c.value-value.ensures, c.terminal_cost.ensures)
    (earned-terminal _ _ _ (eqb-true _ _ (sym c.is_terminal.ensures ∙ c.if-is_terminal.true)))

pub price-requires : goal.price-requires
price-requires c = leads (goal.at.price-requires c).After-chosen_action-action

pub all_solved-requires : goal.all_solved-requires
all_solved-requires c = leads (goal.at.all_solved-requires c).After-chosen_action-action

pub returns-then-value-price : goal.returns-then-value-price
returns-then-value-price c =
    let at = goal.at.returns-then-value-price c in
    earned-decision _ _ _ (decided at.Else-is_terminal) (acted at.Then-has_action) c.chosen_action-action.ensures.is c.value-value.ensures
    c.price.ensures.0 c.if-value-price.true c.all_solved.ensures

pub returns-else-value-price : goal.returns-else-value-price
returns-else-value-price c =
    let at = goal.at.returns-else-value-price c in
    rw (ne_eqb _ _ c.if-value-price.false)
    (unearned _ _ _ (decided at.Else-is_terminal) (acted at.Then-has_action) c.chosen_action-action.ensures.is c.value-value.ensures
    c.price.ensures.0 c.if-value-price.false)

pub returns-else-has_action : goal.returns-else-has_action
returns-else-has_action c =
    let none = ltb-false _ _ (sym c.has_action.ensures ∙ c.if-has_action.false) in
    rw c.value-value.ensures (earned-barren _ _ _ (decided (goal.at.returns-else-has_action c).Else-is_terminal) none)
