use Rattle.std.proofs.Common.{[], rules, refl, sym, ◌∙◌}
use borrow.Author.Tests.{eqb-true, eqb-false}
use lib.Dec.{leb}
use Rattle.model.specs.Problem.{action, value_of, states}
use Rattle.model.specs.Read.{problem_of, cells_of}
use Rattle.model.specs.QValue.{q}
use Rattle.sheet.specs.Sheet.{Below, action_of}
use Rattle.questions.proofs.Stepping.{at-each-item, every-from_items, walk-items, inside-below, under-is, under-terminal}
use Rattle.questions.proofs.states.value_under.Goals as goal

pub returns-then-is_terminal : goal.returns-then-is_terminal
returns-then-is_terminal c =
    rw (c.value-value.ensures, c.terminal_cost.ensures)
    (under-terminal (problem_of c.args.sheet.now) c.args.state (eqb-true _ _ (sym c.is_terminal.ensures ∙ c.if-is_terminal.true)) _)

pub all-requires-clause-callable : goal.all-requires-clause-callable
all-requires-clause-callable c =
    let p = problem_of c.args.sheet.now in
    let tag = eqb-false _ _ (sym c.is_terminal.ensures ∙ c.if-is_terminal.false) in
    at-each-item (action 0 []) (walk-items c.actions.ensures.0 c.actions.ensures.1 c.actions.ensures.2) (λ x q k. search rules)
    (λ x k lt e. let leads : Below (states p) (action_of x).successors = rw e (inside-below p c.args.state tag c.requires.inside k) in
    search rules)

pub returns : goal.returns
returns c =
    let s = c.args.sheet.now in
    let tag = eqb-false _ _ (sym c.is_terminal.ensures ∙ c.if-is_terminal.false) in
    every-from_items (action 0 []) (λ a. leb (value_of (cells_of s) c.args.state) (q (problem_of s).kind (value_of (cells_of s)) a)) _
    (walk-items c.actions.ensures.0 c.actions.ensures.1 c.actions.ensures.2) (λ i lt. refl) c.all.ensures.ran (λ x b q k. search rules) ∙
    sym (under-is (problem_of s) c.args.state tag (cells_of s))
