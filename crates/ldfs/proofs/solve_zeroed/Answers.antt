-- The questions, and then a refusal or the work.
use mathlib.Core.Path.{sym, ◌∙◌}
use Rattle.std.proofs.Common.{rules}
use Rattle.ldfs.proofs.Solving.{Asked, clauses, refused-by, in_place, workable, no-budget, worked}
use Rattle.ldfs.proofs.solve_zeroed.Goals as goal
use Rattle.ldfs.proofs.solve_zeroed.Goals.{In-Ok}

-- every answer is yes
asked-at : (c : In-Ok) → Asked c.args.sheet.now c.args.table.now c.ask.new.table
asked-at c = record {
  yes = sym c.in-Ok.is ∙ c.ask.ensures.answer;
  bytes = search rules;
  table = c.ask.ensures.table;
}

pub finish-requires : goal.finish-requires
finish-requires c =
    let asked = asked-at (goal.at.finish-requires c).In-Ok in record { in_place = in_place asked; workable = workable asked }

pub returns-in-Err : goal.returns-in-Err
returns-in-Err c =
    let said = sym c.in-Err.is ∙ c.ask.ensures.answer in
    clauses (refused-by _ _ c.args.budget _ said _ (rw c.number.ensures at c.refusal.ensures) _ c.ask.ensures.table)

pub returns-then-budget-eq0 : goal.returns-then-budget-eq0
returns-then-budget-eq0 c =
    let asked = asked-at (goal.at.returns-then-budget-eq0 c).In-Ok in
    let refused = rw c.number-then-budget-eq0.ensures at c.refusal-then-budget-eq0.ensures in
    clauses (no-budget asked c.if-budget-eq0.true refused (c.fill.ensures.after (λ _ e. e)))

pub returns-else-budget-eq0 : goal.returns-else-budget-eq0
returns-else-budget-eq0 c =
    clauses (worked (asked-at (goal.at.returns-else-budget-eq0 c).In-Ok) c.if-budget-eq0.false c.finish.ensures)
