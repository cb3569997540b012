-- Least costs, and what plans cost, in a problem whose findings may point anywhere but lead in no circle: V* solves the Bellman equation
-- and is its only solution, and what a plan costs solves the plan's.
use Prim.Native.Nat.{ℕ, zero, suc, ◌+◌, ◌<◌, ◌≤◌}
use mathlib.Core.Path.{◌≡◌, refl, sym, ap, ◌∙◌}
use mathlib.Core.List.{List}
use native.Mathlib.Omega.{arith}
use lib.ListN.{length}
use Rattle.model.specs.Cost.{Cost}
use Rattle.model.specs.Optimal.{solution, bellman, optimal}
use Rattle.model.specs.Policy.{Policy, cost_at, policy_cost}
use Rattle.model.specs.Problem.{Problem, states, node_at}
use Rattle.layout.specs.Shape.{Inside}
use Rattle.theory.proofs.Basics.{downward}
use Rattle.order.proofs.Costs.{PricedAlike, bellman-alike, cost-alike, priced-alike}
use Rattle.order.proofs.Placing.{order-perm, order-forward}
use Rattle.order.specs.Claims.{Perm}
use Rattle.order.specs.Moved.{at}
use Rattle.order.specs.Order.{order, inverse}

-- An equation that looks, at each of n stages, only at stages whose new number is larger is solved by looking n deep.
module _ (n : ℕ) (to : List ℕ) (below : (t : ℕ) → t < n → at to t < n) (step : ℕ → (ℕ → Cost) → Cost)
    (ahead : (s : ℕ) → s < n → (v v' : ℕ → Cost) → ((t : ℕ) → t < n → at to s < at to t → v t ≡ v' t) → step s v ≡ step s v') where
  any-depth : (k m s : ℕ) → s < n → n ≤ at to s + suc k → n ≤ at to s + suc m → solution step k s ≡ solution step m s
  unfolding solution
  any-depth zero zero s l a b = refl
  any-depth zero (suc m) s l a b = ahead s l _ _ (λ t lt f. absurd (omega (arith, below t lt)))
  any-depth (suc k) zero s l a b = ahead s l _ _ (λ t lt f. absurd (omega (arith, below t lt)))
  any-depth (suc k) (suc m) s l a b = ahead s l _ _ (λ t lt f. any-depth k m t lt (omega arith) (omega arith))

  deep-solves : (s : ℕ) → s < n → solution step n s ≡ step s (solution step n)
  unfolding solution
  deep-solves s l = any-depth n (suc n) s l (omega arith) (omega arith)

module _ (p : Problem) (any : Inside p) (full : length (order p) ≡ states p) where
  abbrev to : List ℕ
  to = inverse (order p)

  h : Perm (states p) (order p) to
  h = order-perm p full

  -- values that agree at the stages with larger new numbers give a stage's checks the same prices
  alike-ahead : (s : ℕ) → s < states p → (v v' : ℕ → Cost) → ((t : ℕ) → t < states p → at to s < at to t → v t ≡ v' t) →
      PricedAlike p.kind v v' (node_at p s)
  alike-ahead s l v v' agree = priced-alike p.kind v v' p any s (λ t lt e. agree t lt (order-forward p full s t l lt e))

  bellman-ahead : (s : ℕ) → s < states p → (v v' : ℕ → Cost) → ((t : ℕ) → t < states p → at to s < at to t → v t ≡ v' t) →
      bellman p s v ≡ bellman p s v'
  bellman-ahead s l v v' agree = bellman-alike p.kind v v' (node_at p s) (alike-ahead s l v v' agree)

  -- V* solves the equation at every stage
  pub draft-solves : (s : ℕ) → s < states p → optimal p s ≡ bellman p s (optimal p)
  unfolding optimal
  draft-solves = deep-solves (states p) to h.to_below (bellman p) bellman-ahead

  -- and whatever solves it is V*, at every stage
  pub draft-only : (v : ℕ → Cost) → ((s : ℕ) → s < states p → v s ≡ bellman p s v) → (s : ℕ) → s < states p → v s ≡ optimal p s
  draft-only v solves s l = ap v (sym (h.from_to s l)) ∙ (by (at to s) (h.to_below s l) ∙ ap (optimal p) (h.from_to s l))
    where
      by : (k : ℕ) → k < states p → v (at (order p) k) ≡ optimal p (at (order p) k)
      by = downward (λ k. k < states p → v (at (order p) k) ≡ optimal p (at (order p) k)) (states p) (λ k ih lk.
          let s : ℕ = at (order p) k in let ls : s < states p = h.from_below k lk in
          solves s ls ∙
          (bellman-ahead s ls v (optimal p)
          (λ t lt f. ap v (sym (h.from_to t lt)) ∙
          (ih (at to t) (omega (arith, h.to_from k lk)) (h.to_below t lt) (h.to_below t lt) ∙ ap (optimal p) (h.from_to t lt))) ∙
          sym (draft-solves s ls)))

  -- what a plan costs solves its equation
  pub draft-plan : (π : Policy) (s : ℕ) → s < states p → policy_cost p π s ≡ cost_at p.kind (policy_cost p π) (node_at p s) (π s)
  unfolding policy_cost
  draft-plan π = deep-solves (states p) to h.to_below (λ s v. cost_at p.kind v (node_at p s) (π s))
      (λ s l v v' agree. cost-alike p.kind v v' (node_at p s) (π s) (alike-ahead s l v v' agree))
