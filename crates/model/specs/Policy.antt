-- S2.1 to S2.4: plans, which are the literature's policies. A policy gives some junctions the number of a check.
use Rattle.std.specs.Prelude.{ℕ, ◌<◌, ◌≡◌, List, ltb, length}
use Rattle.std.proofs.Math.Option.{Option, none, some}
use Rattle.model.specs.Problem.{Kind, Action, Form, Node, terminal, decision, Problem, Cell, states, node_at, action_at, cell_of, ◌∈◌}
use Rattle.model.specs.Tests.{fork}
use Rattle.model.specs.Cost.{Cost}
use Rattle.model.specs.QValue.{q_full}
use Rattle.model.specs.Optimal.{solution}

abbrev pub Policy : Type 0
Policy = ℕ → Option ℕ

-- S2.1: t is reached from s by the plan's own choices
pub data Reach (p : Problem) (π : Policy) : ℕ → ℕ → Type 0 where
  arrived : {s : ℕ} → Reach p π s s
  onward : {s u t i : ℕ} {form : Form} {acts : List Action} → node_at p s ≡ decision form acts → π s ≡ some i →
      u ∈ (action_at acts i).successors →
      Reach p π u t → Reach p π s t

-- S2.2, complete from a stage: every junction that is reached is covered, by a check that exists
abbrev pub Closed : Problem → Policy → ℕ → Type 0
Closed p π s =
    (t : ℕ) (form : Form) (acts : List Action) → Reach p π s t → node_at p t ≡ decision form acts →
    (i : ℕ) × (π t ≡ some i) × (i < length acts)

-- S8.15: every junction has a check
abbrev pub Checked : Problem → Type 0
Checked p = (s : ℕ) (form : Form) (acts : List Action) → node_at p s ≡ decision form acts → 0 < length acts

-- S2.3, the cost of a plan: at an ending the ending's cost, at a junction the chosen check's cost plus the largest, or the sum, of the
-- plan's cost at its findings; none at a junction that is not covered by a check that it has, and so wherever the plan is not complete
unfoldable pub cost_at : Kind → (ℕ → Cost) → Node → Option ℕ → Cost
cost_at k v (terminal cost) o = some cost
cost_at k v (decision form acts) none = none
cost_at k v (decision form acts) (some i) = fork (ltb i (length acts)) (λ _. q_full k v (action_at acts i)) (λ _. none)

unfoldable pub policy_cost : Problem → Policy → ℕ → Cost
policy_cost p π = solution (λ s v. cost_at p.kind v (node_at p s) (π s)) (states p)

-- S8.2: the plan that is written in the cells, the chosen check at each junction
abbrev pub written : List Cell → Policy
written cells s = some (cell_of cells s).chosen
