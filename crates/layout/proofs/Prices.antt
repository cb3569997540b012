-- The price of an action in numbers: none where the largest of its successors' values is, else its cost plus the largest or the sum, cut.
use Prim.Native.Nat.{ℕ, ◌<◌, ◌≤◌}
use mathlib.Core.Path.{◌≡◌, refl}
use mathlib.Core.Bool.{Bool, true, false}
use mathlib.Core.Option.{none, some}
use mathlib.Core.List.{List, [], ◌∷◌}
use native.Mathlib.Omega.{arith}
use borrow.Author.Tests.{lt-ltb, le-ltb, ltb-true, ltb-false}
use lib.Dec.{ltb}
use Rattle.model.specs.Problem.{Kind, worst, Action}
use Rattle.model.specs.Limits.{ceiling, no_plan}
use Rattle.model.specs.Cost.{amount, cost_of, both}
use Rattle.model.specs.QValue.{join, joined, q}
use Rattle.model.specs.Earlier.{joined_values, number_price}

-- the cost that a written value stands for
pub cost-within : (x : ℕ) → x ≤ ceiling → cost_of x ≡ some x
unfolding cost_of
cost-within x h = rw (le-ltb ceiling x h)

pub cost-above : (x : ℕ) → ceiling < x → cost_of x ≡ none
unfolding cost_of
cost-above x h = rw (lt-ltb ceiling x h)

module _ (k : Kind) (v : ℕ → ℕ) where
  -- none where the largest value is none
  abbrev Joined : List ℕ → Type 0
  Joined ts =
      let top = joined_values worst v ts in
      (ceiling < top → joined k (λ t. cost_of (v t)) ts ≡ none) ×
      (top ≤ ceiling → joined k (λ t. cost_of (v t)) ts ≡ some (joined_values k v ts))

  joined-values : (ts : List ℕ) → Joined ts
  unfolding joined joined_values join both
  joined-values [] = (λ h. absurd (omega arith), λ _. refl)
  joined-values (t ∷ ts) = go (ltb ceiling (v t)) refl (ltb ceiling (joined_values worst v ts)) refl (joined-values ts)
    where
      go : (b : Bool) → ltb ceiling (v t) ≡ b → (c : Bool) → ltb ceiling (joined_values worst v ts) ≡ c → Joined ts →
          Joined (t ∷ ts)
      go true e c f ih =
          let above = ltb-true ceiling (v t) e in
          (λ _. rw (cost-above (v t) above), λ h. absurd (omega arith))
      go false e true f ih =
          let above = ltb-true ceiling (joined_values worst v ts) f in
          (λ _. rw (cost-within (v t) (ltb-false _ _ e), ih.0 above), λ h. absurd (omega arith))
      go false e false f ih =
          let low = ltb-false ceiling (v t) e in
          let others = ltb-false ceiling (joined_values worst v ts) f in
          (λ h. absurd (omega arith), λ _. rw (cost-within (v t) low, ih.1 others))

  module _ (a : Action) where
    pub price-none : ceiling < joined_values worst v a.successors → q k v a ≡ no_plan
    unfolding both amount
    price-none h = rw ((joined-values a.successors).0 h)

    pub price-number : joined_values worst v a.successors ≤ ceiling → q k v a ≡ number_price k v a
    unfolding both amount
    price-number h = rw ((joined-values a.successors).1 h)
