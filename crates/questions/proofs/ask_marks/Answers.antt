use mathlib.Core.Path.{◌≡◌}
use Rattle.std.proofs.Common.{rules}
use Rattle.model.specs.Tests.{every}
use Rattle.model.specs.Problem.{states, node_at}
use Rattle.model.specs.Read.{problem_of, cells_of}
use Rattle.model.specs.Questions.{value_under}
use Rattle.questions.specs.Put.{mark_at}
use Rattle.questions.proofs.Stepping.{every-from_all}
use Rattle.questions.proofs.Asking.{no-7, no-8, marks-yes}
use Rattle.questions.proofs.ask_marks.Goals as goal
use Rattle.questions.proofs.ask_marks.Goals.{After-all, After-all-2}

-- the two answers
seven : (c : After-all) → let s = c.args.sheet.now in
    c.all.result ≡ every (states (problem_of s)) (λ i. value_under (problem_of s) (cells_of s) i (node_at (problem_of s) i))
seven c = every-from_all _ _ (λ k. record { start = 0; end = c.states.ensures.number k }) c.all.ensures.ran (λ x b q k. search rules)

eight : (c : After-all-2) → let s = c.args.sheet.now in
    c.all-2.result ≡ every (states (problem_of s)) (mark_at (problem_of s) (cells_of s))
eight c = every-from_all _ _ (λ k. record { start = 0; end = c.states-2.ensures.number k }) c.all-2.ensures.ran (λ x b q k. search rules)

pub returns-then-not-all : goal.returns-then-not-all
returns-then-not-all c =
    let bad = no-7 _ _ _ (seven (goal.at.returns-then-not-all c).After-all) c.if-not-all.true in cc

pub returns-then-not-all-2 : goal.returns-then-not-all-2
returns-then-not-all-2 c =
    let at = goal.at.returns-then-not-all-2 c in
    let bad = no-8 _ _ _ (seven at.After-all) _ (eight at.After-all-2) c.if-not-all.false c.if-not-all-2.true in cc

pub returns : goal.returns
returns c =
    let at = goal.at.returns c in
    marks-yes _ _ _ (seven at.After-all) _ (eight at.After-all-2) c.if-not-all.false c.if-not-all-2.false
