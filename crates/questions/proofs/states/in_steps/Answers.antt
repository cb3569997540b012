use Rattle.std.proofs.Common.{[], rules, refl, sym, ◌∙◌}
use borrow.Author.Tests.{eqb-true, eqb-false}
use Rattle.model.specs.Problem.{action}
use Rattle.model.specs.Read.{problem_of}
use Rattle.model.specs.Questions.{ascending}
use Rattle.questions.proofs.Stepping.{every-from_items, walk-items, order_is, order-terminal}
use Rattle.questions.proofs.states.in_steps.Goals as goal

pub returns-then-is_terminal : goal.returns-then-is_terminal
returns-then-is_terminal c =
    order-terminal (problem_of c.args.sheet.now) c.args.state (eqb-true _ _ (sym c.is_terminal.ensures ∙ c.if-is_terminal.true)) _ _ _

pub returns : goal.returns
returns c =
    let tag = eqb-false _ _ (sym c.is_terminal.ensures ∙ c.if-is_terminal.false) in
    every-from_items (action 0 []) (λ a. ascending c.args.step c.args.low c.args.n a.successors) _
    (walk-items c.actions.ensures.0 c.actions.ensures.1 c.actions.ensures.2) (λ i lt. refl) c.all.ensures.ran (λ x b q k. search rules) ∙
    sym (order_is (problem_of c.args.sheet.now) c.args.state tag _ _ _)
