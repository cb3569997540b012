-- A policy costs some number exactly where it is closed. None costs less than V*, and one costs exactly that.
use Prim.Native.Nat.{ℕ, ◌<◌, ◌≤◌}
use mathlib.Core.Path.{◌≡◌, refl, sym, ap, ◌∙◌}
use mathlib.Core.Bool.{Bool, true, false}
use mathlib.Core.Logic.{◌⊎◌, inl, inr}
use mathlib.Core.Option.{Option, none, some}
use mathlib.Core.List.{List}
use native.Mathlib.Omega.{arith}
use borrow.Author.Tests.{lt-ltb, ltb-true}
use lib.Dec.{ltb}
use lib.ListN.{length}
use Rattle.model.specs.Tests.{fork}
use Rattle.model.specs.Problem.{Kind, Action, Form, Node, terminal, decision, Problem, states, node_at, action_at, ◌∈◌}
use Rattle.model.specs.Cost.{Cost, ◌⊑◌}
use Rattle.model.specs.QValue.{q_full, least_cost}
use Rattle.model.specs.Optimal.{bellman_at, optimal}
use Rattle.model.specs.Policy.{Policy, Reach, arrived, onward, Closed, Checked, cost_at, policy_cost}
use Rattle.theory.specs.Consistent.{WellFormed}
use Rattle.theory.proofs.Basics.{downward}
use Rattle.theory.proofs.CostLaws.{at-most-then, at-most-some, not_some}
use Rattle.theory.proofs.QValueLaws.{q_full-same, q_full-mono, q_full-part, q_full-some, Attains, cost-below, cost-attains}
use Rattle.theory.proofs.Bellman.{Local, solves, optimal-solves, optimal-terminal, optimal-decision}

closed-next : {p : Problem} {π : Policy} {s : ℕ} {form : Form} (acts : List Action) (i t : ℕ) → Closed p π s →
    node_at p s ≡ decision form acts → π s ≡ some i → t ∈ (action_at acts i).successors → Closed p π t
closed-next acts i t closed e c m u form' acts' r = closed u form' acts' (onward e c m r)

-- a junction that costs some number is covered, by an action that exists and costs that
covered : (k : Kind) (v : ℕ → Cost) (form : Form) (acts : List Action) (o : Option ℕ) (x : ℕ) →
    cost_at k v (decision form acts) o ≡ some x →
    (i : ℕ) × (o ≡ some i) × (i < length acts) × (q_full k v (action_at acts i) ≡ some x)
unfolding cost_at
covered k v form acts none x h = not_some refl h
covered k v form acts (some i) x h = go (ltb i (length acts)) refl h
  where
    go : (b : Bool) → ltb i (length acts) ≡ b → fork b (λ _. q_full k v (action_at acts i)) (λ _. none) ≡ some x →
        (j : ℕ) × (◌≡◌ {A = Option ℕ} (some i) (some j)) × (j < length acts) × (q_full k v (action_at acts j) ≡ some x)
    go true e h = (i, refl, ltb-true _ _ e, h)
    go false e h = not_some refl h

module _ (p : Problem) (wf : WellFormed p) (π : Policy) where
  cost-local : Local (states p) (λ s v. cost_at p.kind v (node_at p s) (π s))
  unfolding cost_at
  cost-local s v v' h = go (node_at p s) refl (π s)
    where
      go : (n : Node) → node_at p s ≡ n → (o : Option ℕ) → cost_at p.kind v n o ≡ cost_at p.kind v' n o
      go (terminal cost) e o = refl
      go (decision form acts) e none = refl
      go (decision form acts) e (some i) =
          rw (q_full-same p.kind v v' (action_at acts i) (λ t m. let f = wf.forward s i t acts e m in h t f.0 f.1))

  pub cost-solves : (s : ℕ) → policy_cost p π s ≡ cost_at p.kind (policy_cost p π) (node_at p s) (π s)
  unfolding policy_cost
  cost-solves = solves (states p) (λ s v. cost_at p.kind v (node_at p s) (π s)) cost-local

  pub cost-terminal : (s cost : ℕ) → node_at p s ≡ terminal cost → policy_cost p π s ≡ some cost
  unfolding cost_at
  cost-terminal s cost e = cost-solves s ∙ ap (λ (n : Node). cost_at p.kind (policy_cost p π) n (π s)) e

  pub cost-decision : (s i : ℕ) {form : Form} (acts : List Action) → node_at p s ≡ decision form acts → π s ≡ some i → i < length acts →
      policy_cost p π s ≡ q_full p.kind (policy_cost p π) (action_at acts i)
  unfolding cost_at
  cost-decision s i acts e c l = cost-solves s ∙ (rw (e, c, lt-ltb i (length acts) l) refl)

  -- a closed policy costs some number
  pub closed-costs : (s : ℕ) → Closed p π s → (x : ℕ) × (policy_cost p π s ≡ some x)
  closed-costs =
      downward (λ s. Closed p π s → (x : ℕ) × (policy_cost p π s ≡ some x)) (states p)
      (λ s ih closed. go s ih closed (node_at p s) refl)
    where
      go : (s : ℕ) → ((t : ℕ) → s < t → t < states p → Closed p π t → (x : ℕ) × (policy_cost p π t ≡ some x)) →
          Closed p π s → (n : Node) → node_at p s ≡ n → (x : ℕ) × (policy_cost p π s ≡ some x)
      go s ih closed (terminal cost) e = (cost, cost-terminal s cost e)
      go s ih closed (decision form acts) e =
          let r = closed s form acts arrived e in
          let z = q_full-some p.kind (policy_cost p π) (action_at acts r.0)
          (λ t m. let f = wf.forward s r.0 t acts e m in ih t f.0 f.1 (closed-next acts r.0 t closed e r.1 m)) in
          (z.0, cost-decision s r.0 acts e r.1 r.2 ∙ z.1)

  -- and one that costs some number is closed
  at-junction : (s : ℕ) {form : Form} (acts : List Action) (x : ℕ) → node_at p s ≡ decision form acts → policy_cost p π s ≡ some x →
      (i : ℕ) × (π s ≡ some i) × (i < length acts) × (q_full p.kind (policy_cost p π) (action_at acts i) ≡ some x)
  at-junction s {form} acts x e h =
      covered p.kind (policy_cost p π) form acts (π s) x
      (ap (λ (n : Node). cost_at p.kind (policy_cost p π) n (π s)) (sym e) ∙ sym (cost-solves s) ∙ h)

  reached-costs : {s t : ℕ} → Reach p π s t → (x : ℕ) → policy_cost p π s ≡ some x →
      (y : ℕ) × (policy_cost p π t ≡ some y)
  reached-costs arrived x h = (x, h)
  reached-costs (onward {s} {u} {t} {i} {form} {acts} node chosen m r) x h =
      let a = at-junction s acts x node h in
      let same : i ≡ a.0 = cc in
      let y = q_full-part p.kind (policy_cost p π) (action_at acts a.0) x a.3 u (rw same at m) in
      reached-costs r y.0 y.1

  pub costs-closed : (s x : ℕ) → policy_cost p π s ≡ some x → Closed p π s
  costs-closed s x h t form acts r node =
      let y = reached-costs r x h in
      let a = at-junction t acts y.0 node y.1 in
      (a.0, a.1, a.2)

  -- V* is at most the cost of any policy
  pub optimal-least : (s : ℕ) → optimal p s ⊑ policy_cost p π s
  unfolding bellman_at cost_at
  optimal-least =
      downward (λ s. optimal p s ⊑ policy_cost p π s) (states p)
      (λ s ih. rw (optimal-solves p wf s, cost-solves s) (go s ih (node_at p s) refl (π s)))
    where
      go : (s : ℕ) → ((t : ℕ) → s < t → t < states p → optimal p t ⊑ policy_cost p π t) → (n : Node) →
          node_at p s ≡ n → (o : Option ℕ) →
          bellman_at p.kind (optimal p) n ⊑ cost_at p.kind (policy_cost p π) n o
      go s ih (terminal cost) e o = omega arith
      go s ih (decision form acts) e none = tt
      go s ih (decision form acts) e (some i) = by_number (ltb i (length acts)) refl
        where
          paid : Cost
          paid = q_full p.kind (policy_cost p π) (action_at acts i)

          by_number : (b : Bool) → ltb i (length acts) ≡ b →
              least_cost (q_full p.kind (optimal p)) acts ⊑ fork b (λ _. paid) (λ _. none)
          by_number true l =
              at-most-then _ _ paid (cost-below (q_full p.kind (optimal p)) acts i (ltb-true _ _ l))
              (q_full-mono p.kind (optimal p) (policy_cost p π) (action_at acts i)
              (λ t m. let f = wf.forward s i t acts e m in ih t f.0 f.1))
          by_number false l = tt

-- the policy that takes an action of least cost by V* at each decision, where there is one
module _ (p : Problem) where
  -- what an action costs by V*, and the least of some: it is none, or some action attains it
  abbrev by_optimal : Action → Cost
  by_optimal = q_full p.kind (optimal p)

  abbrev Least : List Action → Type 0
  Least acts = (least_cost by_optimal acts ≡ none) ⊎ Attains (least_cost by_optimal acts) by_optimal acts

  abbrev chosen_of : (acts : List Action) → Least acts → Option ℕ
  chosen_of acts (inl e) = none
  chosen_of acts (inr r) = some r.0

  abbrev choose : Node → Option ℕ
  choose (terminal cost) = none
  choose (decision form acts) = chosen_of acts (cost-attains by_optimal acts)

  pub greedy : Policy
  greedy s = choose (node_at p s)

module _ (p : Problem) (wf : WellFormed p) where
  pub greedy-attains : (s : ℕ) → policy_cost p (greedy p) s ≡ optimal p s
  unfolding greedy cost_at bellman_at
  greedy-attains =
      downward (λ s. policy_cost p (greedy p) s ≡ optimal p s) (states p)
      (λ s ih. cost-solves p wf (greedy p) s ∙ go s ih (node_at p s) refl ∙ sym (optimal-solves p wf s))
    where
      go : (s : ℕ) → ((t : ℕ) → s < t → t < states p → policy_cost p (greedy p) t ≡ optimal p t) → (n : Node) →
          node_at p s ≡ n →
          cost_at p.kind (policy_cost p (greedy p)) n (choose p n) ≡ bellman_at p.kind (optimal p) n
      go s ih (terminal cost) e = refl
      go s ih (decision form acts) e = by-choice (cost-attains (by_optimal p) acts)
        where
          by-choice : (c : Least p acts) →
              cost_at p.kind (policy_cost p (greedy p)) (decision form acts) (chosen_of p acts c) ≡ least_cost (by_optimal p) acts
          by-choice (inl z) = sym z
          by-choice (inr r) =
              let same = q_full-same p.kind (policy_cost p (greedy p)) (optimal p) (action_at acts r.0)
              (λ t m. let g = wf.forward s r.0 t acts e m in ih t g.0 g.1) in
              rw (lt-ltb r.0 (length acts) r.1) (same ∙ sym r.2)

  -- where every decision has an action, V* is some number everywhere
  pub never-none : Checked p → (s : ℕ) → (x : ℕ) × (optimal p s ≡ some x)
  never-none has = downward (λ s. (x : ℕ) × (optimal p s ≡ some x)) (states p) (λ s ih. go s ih (node_at p s) refl)
    where
      go : (s : ℕ) → ((t : ℕ) → s < t → t < states p → (x : ℕ) × (optimal p t ≡ some x)) → (n : Node) →
          node_at p s ≡ n → (x : ℕ) × (optimal p s ≡ some x)
      go s ih (terminal cost) e = (cost, optimal-terminal p wf s cost e)
      go s ih (decision form acts) e =
          let f = by_optimal p in
          let z = q_full-some p.kind (optimal p) (action_at acts 0) (λ t m. let g = wf.forward s 0 t acts e m in ih t g.0 g.1) in
          let r = at-most-some (least_cost f acts) z.0 (rw z.1 at (cost-below f acts 0 (has s form acts e))) in
          (r.0, optimal-decision p wf s acts e ∙ r.1)

  -- S2.6: where V* is some number, a closed policy costs that; where it is none, no policy is closed, and only there
  pub greedy-closed : (s x : ℕ) → optimal p s ≡ some x → Closed p (greedy p) s × (policy_cost p (greedy p) s ≡ some x)
  greedy-closed s x e = let c = greedy-attains s ∙ e in (costs-closed p wf (greedy p) s x c, c)

  pub none-closed : (s : ℕ) → optimal p s ≡ none → (π : Policy) → Closed p π s → ⊥
  none-closed s e π closed =
      let (y, costs) = closed-costs p wf π s closed in
      let below : none ⊑ some y = rw (e, costs) at (optimal-least p wf π s) in
      below

  pub closed_none : (s : ℕ) → ((π : Policy) → Closed p π s → ⊥) → optimal p s ≡ none
  closed_none s no_complete_plan = go (optimal p s) refl
    where
      go : (c : Cost) → optimal p s ≡ c → c ≡ none
      go none e = refl
      go (some x) e = absurd (no_complete_plan (greedy p) (greedy-closed s x e).0)

  -- a closed policy costs some number, and V* is some number, at most that
  pub closed-least : (s : ℕ) (π : Policy) → Closed p π s →
      (x y : ℕ) × (optimal p s ≡ some x) × (policy_cost p π s ≡ some y) × (x ≤ y)
  closed-least s π closed =
      let (y, costs) = closed-costs p wf π s closed in
      let (x, is, le) = at-most-some (optimal p s) y (rw costs at (optimal-least p wf π s)) in
      (x, y, is, costs, le)
