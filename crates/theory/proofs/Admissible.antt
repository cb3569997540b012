-- What consistent cells say of V*: no value is above its amount, and a solved value is it. A solved state's value is the amount that the
-- written policy costs there, none included.
use Prim.Native.Nat.{ℕ, ◌<◌, ◌≤◌}
use mathlib.Core.Path.{◌≡◌, refl, sym, ap, ◌∙◌}
use mathlib.Core.Bool.{true}
use mathlib.Core.Option.{some}
use mathlib.Core.List.{List, [], ◌∷◌}
use native.Mathlib.Omega.{arith}
use borrow.Author.Tests.{le-ltb}
use Rattle.model.specs.Problem.{Action, Node, terminal, decision, Problem, Cell, states, node_at, action_at, cell_of, value_of, solved, ◌∈◌}
use Rattle.model.specs.Limits.{ceiling, no_plan}
use Rattle.model.specs.Cost.{amount}
use Rattle.model.specs.QValue.{q, least}
use Rattle.model.specs.Optimal.{bellman_cut_at, bellman_cut, optimal}
use Rattle.model.specs.Policy.{Reach, arrived, onward, Closed, cost_at, policy_cost, written}
use Rattle.theory.specs.Consistent.{WellFormed, Consistent}
use Rattle.theory.proofs.Basics.{downward}
use Rattle.theory.proofs.CostLaws.{amount-mono, amount-below, amount-within}
use Rattle.theory.proofs.QValueLaws.{q-mono, q-same, q-amount, least-below, least-small, least_above}
use Rattle.theory.proofs.Bellman.{optimal-amount}
use Rattle.theory.proofs.PolicyLaws.{cost-solves, cost-terminal, cost-decision, costs-closed, optimal-least}

module _ (p : Problem) (wf : WellFormed p) (cells : List Cell) (h : Consistent p cells) where
  -- monotone: no value is above the right side of the equation as written, by the values themselves
  pub monotone : (s : ℕ) → value_of cells s ≤ bellman_cut p s (value_of cells)
  unfolding bellman_cut_at
  monotone s = go (node_at p s) refl
    where
      go : (n : Node) → node_at p s ≡ n → value_of cells s ≤ bellman_cut_at p.kind (value_of cells) n
      go (terminal cost) e = omega (arith, (h.sound s).under_end cost (rw e), wf.capped s cost e)
      go (decision form acts) e =
          least_above (q p.kind (value_of cells)) acts (value_of cells s) (h.sound s).small (λ i l. (h.sound s).under_q acts i e l)

  -- admissible
  pub below-optimal : (s : ℕ) → value_of cells s ≤ amount (optimal p s)
  unfolding bellman_cut_at
  below-optimal =
      downward (λ s. value_of cells s ≤ amount (optimal p s)) (states p)
      (λ s ih. omega (arith, monotone s, optimal-amount p wf s, go s ih (node_at p s) refl))
    where
      go : (s : ℕ) → ((t : ℕ) → s < t → t < states p → value_of cells t ≤ amount (optimal p t)) → (n : Node) →
          node_at p s ≡ n →
          bellman_cut_at p.kind (value_of cells) n ≤ bellman_cut_at p.kind (λ t. amount (optimal p t)) n
      go s ih (terminal cost) e = omega arith
      go s ih (decision form acts) e =
          let v : ℕ → ℕ = λ t. amount (optimal p t) in
          least_above (q p.kind v) acts (least (q p.kind (value_of cells)) acts) (least-small (q p.kind (value_of cells)) acts)
          (λ i l. omega (
            arith,
            least-below (q p.kind (value_of cells)) acts i l,
            q-mono p.kind (value_of cells) v (action_at acts i) (λ t m. let f = wf.forward s i t acts e m in ih t f.0 f.1),
          ))

  -- a solved value is the amount that the written policy costs: cut, or none where that policy is not closed
  abbrev Costs : ℕ → Type 0
  Costs s = solved (cell_of cells s) ≡ true → value_of cells s ≡ amount (policy_cost p (written cells) s)

  pub solved-cost : (s : ℕ) → solved (cell_of cells s) ≡ true → value_of cells s ≡ amount (policy_cost p (written cells) s)
  unfolding amount cost_at
  solved-cost = downward Costs (states p) (λ s ih e. go s ih e (node_at p s) refl)
    where
      go : (s : ℕ) → ((t : ℕ) → s < t → t < states p → Costs t) → solved (cell_of cells s) ≡ true → (n : Node) →
          node_at p s ≡ n → value_of cells s ≡ amount (policy_cost p (written cells) s)
      go s ih e (terminal cost) node =
          rw (cost-terminal p wf (written cells) s cost node) (omega (arith, (h.sound s).at_end cost (rw node) e, wf.capped s cost node))
      go s ih e (decision form []) node =
          rw (cost-solves p wf (written cells) s, node, le-ltb (cell_of cells s).chosen 0 (omega arith))
          ((h.sound s).at_end no_plan (rw node) e)
      go s ih e (decision form (a ∷ more)) node =
          let g = (h.sound s).settles (a ∷ more) node (omega arith) e in
          let i : ℕ = (cell_of cells s).chosen in
          let b : Action = action_at (a ∷ more) i in
          g.priced ∙
          q-same p.kind (value_of cells) (λ t. amount (policy_cost p (written cells) t)) b
          (λ t m. let f = wf.forward s i t (a ∷ more) node m in ih t f.0 f.1 (g.below t m)) ∙
          q-amount p.kind (policy_cost p (written cells)) b ∙
          ap amount (sym (cost-decision p wf (written cells) s i (a ∷ more) node refl g.exists))

  -- so a solved value below the ceiling is what it costs, and the policy is closed up to the ceiling
  pub written-costs : (s : ℕ) → solved (cell_of cells s) ≡ true → value_of cells s < ceiling →
      policy_cost p (written cells) s ≡ some (value_of cells s)
  written-costs s e l = rw (solved-cost s e) (amount-below (policy_cost p (written cells) s) (omega (arith, solved-cost s e)))

  pub written-closed : (s : ℕ) → solved (cell_of cells s) ≡ true → value_of cells s ≤ ceiling → Closed p (written cells) s
  written-closed s e l =
      let r = amount-within (policy_cost p (written cells) s) (omega (arith, solved-cost s e)) in
      costs-closed p wf (written cells) s r.0 r.1

  -- a solved value is V* as written
  pub solved-optimal : (s : ℕ) → solved (cell_of cells s) ≡ true → value_of cells s ≡ amount (optimal p s)
  solved-optimal s e =
      let least = amount-mono (optimal p s) (policy_cost p (written cells) s) (optimal-least p wf (written cells) s) in
      omega (arith, below-optimal s, solved-cost s e, least)

  -- below the ceiling the written policy costs V*
  pub written-optimal : (s : ℕ) → solved (cell_of cells s) ≡ true → value_of cells s < ceiling →
      policy_cost p (written cells) s ≡ optimal p s
  written-optimal s e l = let v = solved-optimal s e in written-costs s e l ∙ rw v (sym (amount-below (optimal p s) (omega arith)))

  -- what the written policy reaches from a solved state is solved
  pub reached-solved : {s t : ℕ} → Reach p (written cells) s t → solved (cell_of cells s) ≡ true → solved (cell_of cells t) ≡ true
  reached-solved arrived e = e
  reached-solved (onward {s} {u} {t} {i} {form} {acts} node takes m rest) e = reached-solved rest (go acts node m)
    where
      same : i ≡ (cell_of cells s).chosen
      same = cc

      go : (acts : List Action) → node_at p s ≡ decision form acts → u ∈ (action_at acts i).successors → solved (cell_of cells u) ≡ true
      go [] node m = absurd (elim m [ ])
      go (a ∷ more) node m = ((h.sound s).settles (a ∷ more) node (omega arith) e).below u (rw (← same) m)
