use mathlib.Core.Path.{◌≡◌}
use Rattle.std.proofs.Common.{rules}
use Rattle.model.specs.Tests.{every}
use Rattle.model.specs.Problem.{states, node_at, cell_of}
use Rattle.model.specs.Read.{problem_of, cells_of}
use Rattle.model.specs.Questions.{apart, successors_in_order}
use Rattle.questions.specs.Put.{ranges_at, lowest_of}
use Rattle.questions.proofs.Stepping.{every-from_all}
use Rattle.questions.proofs.Asking.{no-5, no-6, findings-yes}
use Rattle.questions.proofs.ask_findings.Goals as goal
use Rattle.questions.proofs.ask_findings.Goals.{After-all, After-all-2}

-- the two answers
five : (c : After-all) → let s = c.args.sheet.now in
    c.all.result ≡ every (states (problem_of s)) (λ i. ranges_at (node_at (problem_of s) i) (cell_of (cells_of s) i))
five c = every-from_all _ _ (λ k. record { start = 0; end = c.states.ensures.number k }) c.all.ensures.ran (λ x b q k. search rules)

six : (c : After-all-2) → let p = problem_of c.args.sheet.now in
    c.all-2.result ≡ every (states p) (λ i. successors_in_order (apart p.kind) (lowest_of c.args.above i) (states p) (node_at p i))
six c = every-from_all _ _ (λ k. record { start = 0; end = c.states-2.ensures.number k }) c.all-2.ensures.ran (λ x b q k. search rules)

pub returns-then-not-all : goal.returns-then-not-all
returns-then-not-all c =
    rw c.into.ensures (no-5 _ _ c.args.above _ (five (goal.at.returns-then-not-all c).After-all) c.if-not-all.true)

pub returns-then-not-all-2 : goal.returns-then-not-all-2
returns-then-not-all-2 c =
    let at = goal.at.returns-then-not-all-2 c in
    rw c.into-then-not-all-2.ensures
    (no-6 _ _ c.args.above _ (five at.After-all) _ (six at.After-all-2) c.if-not-all.false c.if-not-all-2.true)

pub returns : goal.returns
returns c =
    let at = goal.at.returns c in
    findings-yes _ _ c.args.above _ (five at.After-all) _ (six at.After-all-2) c.if-not-all.false c.if-not-all-2.false
