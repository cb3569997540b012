use Prim.Native.Nat.{ℕ, ◌+◌, ◌*◌, ◌-◌, ◌/◌, ◌≤◌}
use mathlib.Core.Path.{◌≡◌}
use lib.ListN.{length}
use Rattle.model.specs.Problem.{action_at, states}
use Rattle.model.specs.Read.{problem_of}
use Rattle.sheet.proofs.Laws.{actions_at}
use Rattle.search.proofs.Trying.{Trying}
use Rattle.search.proofs.Deciding.{Acting}
use Rattle.search.proofs.visits.+try_action_visit_visit_decision.Given as goal

-- The measures: a visit tries actions, and to try one visits later states, so the number of states from this one on falls. Each member's
-- share of three makes the calls between them fall too.
abbrev pub decreases-try_action : goal.decreases-try_action
decreases-try_action l = 3 * (states (problem_of l.sheet.now) - l.d.state)

abbrev pub decreases-visit : goal.decreases-visit
decreases-visit l = 3 * (states (problem_of l.sheet.now) - l.state) + 2

abbrev pub decreases-visit_decision : goal.decreases-visit_decision
decreases-visit_decision l = 3 * (states (problem_of l.sheet.now) - l.state) + 1

-- the number of the successor that stands at o, of the action at a
abbrev pub nth : ℕ → ℕ → ℕ
nth a o = (o - (a + 7)) / 2

-- `try_action`: the loop carries what `Trying` says, at the successor that stands at the offset.
abbrev pub invariant-try_action-loop-o : goal.invariant-try_action-loop-o
invariant-try_action-loop-o l =
    (l.o ≡ l.a + 7 + 2 * nth l.a l.o) × (l.o ≤ l.end) ×
    Trying l.table (problem_of l.initial.sheet) l.budget l.d.state
    (action_at (actions_at (problem_of l.initial.sheet) l.d.state) l.n)
    l.initial.sheet l.initial.spent l.sheet l.spent (nth l.a l.o)

abbrev pub decreases-try_action-loop-o : goal.decreases-try_action-loop-o
decreases-try_action-loop-o l = l.end - l.o

-- `visit_decision`: the loop carries what `Acting` says.
abbrev pub invariant-visit_decision-loop-a : goal.invariant-visit_decision-loop-a
invariant-visit_decision-loop-a l =
    Acting l.table (problem_of l.initial.sheet) l.budget l.state l.initial.sheet l.initial.spent l.sheet l.spent l.i l.at l.kept

abbrev pub decreases-visit_decision-loop-a : goal.decreases-visit_decision-loop-a
decreases-visit_decision-loop-a l = length (actions_at (problem_of l.initial.sheet) l.state) - l.i
