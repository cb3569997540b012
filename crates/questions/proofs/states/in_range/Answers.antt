use Prim.Native.Nat.{◌≤◌}
use mathlib.Core.Path.{◌≡◌, sym, ◌∙◌}
use borrow.Author.Tests.{eqb-true, eqb-false}
use Rattle.std.proofs.Common.{None}
use Rattle.model.specs.Problem.{decision, node_at, cell_of}
use Rattle.model.specs.Format.{actions_of, form_of}
use Rattle.model.specs.Read.{problem_of, cells_of}
use Rattle.sheet.proofs.Laws.{is-terminal, is-decision}
use Rattle.questions.proofs.Ranges.{value_out, mark-out, terminal-range, count-out, zero-range, solved-range, open-range}
use Rattle.questions.proofs.states.in_range.Goals as goal
use Rattle.questions.proofs.states.in_range.Goals.{After-from-chosen, Else-is_terminal, Else-mark-gt-SOLVED}
use Rattle.questions.proofs.states.in_range.Goals.{Else-value-gt-NO_PLAN}

-- the value and the mark are in range
low : (c : Else-value-gt-NO_PLAN) → (cell_of (cells_of c.args.sheet.now) c.args.state).value ≤ 1000000001
low c = rw c.value.ensures at c.if-value-gt-NO_PLAN.false

bit : (c : Else-mark-gt-SOLVED) → (cell_of (cells_of c.args.sheet.now) c.args.state).mark ≤ 1
bit c = rw c.mark-mark.ensures at c.if-mark-gt-SOLVED.false

-- the state is a decision
decided : (c : Else-is_terminal) → let n = node_at (problem_of c.args.sheet.now) c.args.state in n ≡ decision (form_of n) (actions_of n)
decided c = is-decision _ (eqb-false _ _ (sym c.is_terminal.ensures ∙ c.if-is_terminal.false))

-- the number of its chosen action
chosen : (c : After-from-chosen) → c.from-chosen.result ≡ (cell_of (cells_of c.args.sheet.now) c.args.state).chosen
chosen c = c.from-chosen.ensures ∙ c.chosen.ensures

pub returns-then-value-gt-NO_PLAN : goal.returns-then-value-gt-NO_PLAN
returns-then-value-gt-NO_PLAN c = value_out _ _ (rw c.value.ensures at c.if-value-gt-NO_PLAN.true)

pub returns-then-mark-gt-SOLVED : goal.returns-then-mark-gt-SOLVED
returns-then-mark-gt-SOLVED c =
    mark-out _ _ (low (goal.at.returns-then-mark-gt-SOLVED c).Else-value-gt-NO_PLAN)
    (rw c.mark-mark.ensures at c.if-mark-gt-SOLVED.true)

pub returns-then-is_terminal : goal.returns-then-is_terminal
returns-then-is_terminal c =
    rw c.terminal_cost.ensures (terminal-range _ _ (low (goal.at.returns-then-is_terminal c).Else-value-gt-NO_PLAN)
    (bit (goal.at.returns-then-is_terminal c).Else-mark-gt-SOLVED) _
    (is-terminal _ (eqb-true _ _ (sym c.is_terminal.ensures ∙ c.if-is_terminal.true))))

pub returns-in_default : goal.returns-in_default
returns-in_default c =
    let out : c.count_in_range.result ≡ None = cc in
    count-out _ _ (low (goal.at.returns-in_default c).Else-value-gt-NO_PLAN)
    (bit (goal.at.returns-in_default c).Else-mark-gt-SOLVED) (sym out ∙ c.count_in_range.ensures)

pub returns-then-chosen-eq0 : goal.returns-then-chosen-eq0
returns-then-chosen-eq0 c =
    let at = goal.at.returns-then-chosen-eq0 c in
    zero-range _ _ (low at.Else-value-gt-NO_PLAN) (bit at.Else-mark-gt-SOLVED) _ c.in-Some.ensures (decided at.Else-is_terminal) _
    (chosen at.After-from-chosen) c.if-chosen-eq0.true

pub returns-then-mark-eq-SOLVED : goal.returns-then-mark-eq-SOLVED
returns-then-mark-eq-SOLVED c =
    let at = goal.at.returns-then-mark-eq-SOLVED c in
    solved-range _ _ (low at.Else-value-gt-NO_PLAN) (bit at.Else-mark-gt-SOLVED) _ c.in-Some.ensures (decided at.Else-is_terminal) _
    (chosen at.After-from-chosen) c.if-chosen-eq0.false _ c.mark-mark.ensures c.if-mark-eq-SOLVED.true

pub returns-else-mark-eq-SOLVED : goal.returns-else-mark-eq-SOLVED
returns-else-mark-eq-SOLVED c =
    let at = goal.at.returns-else-mark-eq-SOLVED c in
    open-range _ _ (low at.Else-value-gt-NO_PLAN) (bit at.Else-mark-gt-SOLVED) _ c.in-Some.ensures (decided at.Else-is_terminal) _
    (chosen at.After-from-chosen) c.if-chosen-eq0.false _ c.mark-mark.ensures c.if-mark-eq-SOLVED.false
