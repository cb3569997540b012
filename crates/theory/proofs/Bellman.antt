-- V* solves the Bellman equation and is its only solution; V* as written solves the equation as written.
use Prim.Native.Nat.{ℕ, zero, suc, ◌+◌, ◌<◌, ◌≤◌}
use mathlib.Core.Path.{◌≡◌, refl, sym, ap, ◌∙◌}
use mathlib.Core.Option.{some}
use mathlib.Core.List.{List}
use native.Mathlib.Omega.{arith}
use Rattle.model.specs.Problem.{Action, Form, Node, terminal, decision, Problem, states, node_at, action_at}
use Rattle.model.specs.Cost.{Cost, amount}
use Rattle.model.specs.QValue.{q, q_full, least_cost}
use Rattle.model.specs.Optimal.{solution, bellman_at, bellman, bellman_cut_at, bellman_cut, optimal}
use Rattle.theory.specs.Consistent.{WellFormed}
use Rattle.theory.proofs.Basics.{downward}
use Rattle.theory.proofs.QValueLaws.{q_full-same, q-amount, least-same, cost-same, cost-amount}

-- a step that looks at states above a state, and below n, only
abbrev pub Local : ℕ → (ℕ → (ℕ → Cost) → Cost) → Type 0
Local n step = (s : ℕ) (v v' : ℕ → Cost) → ((t : ℕ) → s < t → t < n → v t ≡ v' t) → step s v ≡ step s v'

-- has one solution
module _ (n : ℕ) (step : ℕ → (ℕ → Cost) → Cost) (local : Local n step) where
  any_fuel : (k m s : ℕ) → n ≤ s + suc k → n ≤ s + suc m → solution step k s ≡ solution step m s
  unfolding solution
  any_fuel zero zero s h g = refl
  any_fuel zero (suc m) s h g = local s _ _ (λ t lt tn. absurd (omega arith))
  any_fuel (suc k) zero s h g = local s _ _ (λ t lt tn. absurd (omega arith))
  any_fuel (suc k) (suc m) s h g = local s _ _ (λ t lt tn. any_fuel k m t (omega arith) (omega arith))

  pub solves : (s : ℕ) → solution step n s ≡ step s (solution step n)
  unfolding solution
  solves s = any_fuel n (suc n) s (omega arith) (omega arith)

  pub only : (v : ℕ → Cost) → ((s : ℕ) → v s ≡ step s v) → (s : ℕ) → v s ≡ solution step n s
  only v h = downward (λ s. v s ≡ solution step n s) n (λ s ih. h s ∙ local s v (solution step n) ih ∙ sym (solves s))

module _ (p : Problem) (wf : WellFormed p) where
  bellman-local : Local (states p) (bellman p)
  unfolding bellman_at
  bellman-local s v v' h = go (node_at p s) refl
    where
      go : (n : Node) → node_at p s ≡ n → bellman_at p.kind v n ≡ bellman_at p.kind v' n
      go (terminal cost) e = refl
      go (decision form acts) e =
          cost-same (q_full p.kind v) (q_full p.kind v') acts
          (λ i l. q_full-same p.kind v v' (action_at acts i) (λ t m. let f = wf.forward s i t acts e m in h t f.0 f.1))

  pub optimal-solves : (s : ℕ) → optimal p s ≡ bellman p s (optimal p)
  unfolding optimal
  optimal-solves = solves (states p) (bellman p) bellman-local

  pub optimal-only : (v : ℕ → Cost) → ((s : ℕ) → v s ≡ bellman p s v) → (s : ℕ) → v s ≡ optimal p s
  unfolding optimal
  optimal-only = only (states p) (bellman p) bellman-local

  pub optimal-terminal : (s cost : ℕ) → node_at p s ≡ terminal cost → optimal p s ≡ some cost
  unfolding bellman_at
  optimal-terminal s cost e = optimal-solves s ∙ ap (bellman_at p.kind (optimal p)) e

  pub optimal-decision : (s : ℕ) {form : Form} (acts : List Action) → node_at p s ≡ decision form acts →
      optimal p s ≡ least_cost (q_full p.kind (optimal p)) acts
  unfolding bellman_at
  optimal-decision s acts e = optimal-solves s ∙ ap (bellman_at p.kind (optimal p)) e

  -- V* as written solves the equation as written
  pub optimal-amount : (s : ℕ) → amount (optimal p s) ≡ bellman_cut p s (λ t. amount (optimal p t))
  unfolding bellman_cut_at amount
  optimal-amount s = go (node_at p s) refl
    where
      go : (n : Node) → node_at p s ≡ n → amount (optimal p s) ≡ bellman_cut_at p.kind (λ t. amount (optimal p t)) n
      go (terminal cost) e = ap amount (optimal-terminal s cost e)
      go (decision form acts) e =
          let f : Action → Cost = q_full p.kind (optimal p) in
          ap amount (optimal-decision s acts e) ∙ cost-amount f acts ∙
          least-same (λ a. amount (f a)) (q p.kind (λ t. amount (optimal p t))) acts
          (λ i l. sym (q-amount p.kind (optimal p) (action_at acts i)))
