-- What is kept of the prices, from one action to the next, and the least price from it.
use Prim.Native.Nat.{ℕ, ◌+◌, ◌<◌, ◌≤◌, min}
use mathlib.Core.Path.{◌≡◌}
use mathlib.Core.Logic.{◌⊎◌, inl, inr, ◌≢◌}
use mathlib.Core.List.{List}
use native.Mathlib.Omega.{arith}
use lib.ListN.{length}
use Rattle.model.specs.Problem.{Action, action_at}
use Rattle.model.specs.Limits.{ceiling, no_plan}
use Rattle.model.specs.QValue.{least}
use Rattle.theory.proofs.Basics.{same_or_not}
use Rattle.theory.proofs.QValueLaws.{least-below, least-small, least_above}
use Rattle.search.specs.declared.kept.Kept.{Kept}
use Rattle.search.specs.Keeps.{Keeps}

-- what holds of each number below n, and of n, holds of each below n + 1
one_more : (P : ℕ → Type 0) (n : ℕ) → ((i : ℕ) → i < n → P i) → P n → (i : ℕ) → i < n + 1 → P i
one_more P n each last i lt = go (same_or_not i n)
  where
    go : (i ≡ n) ⊎ (i ≢ n) → P i
    go (inl e) = rw e last
    go (inr ne) = each i (omega arith)

module _ {acts : List Action} where
  pub keeps-none : (f : Action → ℕ) {kept : Kept} → (kept.fresh ≡ 1000000001) × (kept.old ≡ 1000000001) → Keeps f acts 0 kept
  unfolding ceiling
  keeps-none f e = record { low = λ i lt. absurd (omega arith); high = λ x top all. omega (arith, e.0) }

  module _ {f : Action → ℕ} {n : ℕ} {kept : Kept} (h : Keeps f acts n kept) {kept' : Kept} {x : ℕ} where
    -- an action skipped: no price has changed, and x is its price
    pub keeps-skipped : x ≡ f (action_at acts n) → (kept'.fresh ≡ min kept.fresh x) × (kept'.old ≡ kept.old) →
        Keeps f acts (n + 1) kept'
    keeps-skipped is e = record {
      low =
          one_more (λ i. min kept'.old kept'.fresh ≤ f (action_at acts i)) n (λ i lt. omega (arith, e, h.low i lt))
          (omega (arith, e, is));
      high = λ y top all. omega (arith, e, is, h.high y top (λ i lt. all i (omega arith)), all n (omega arith));
    }

    -- an action abandoned: prices have risen from f to g, and x is its price now
    pub keeps-abandoned : (g : Action → ℕ) → ((i : ℕ) → f (action_at acts i) ≤ g (action_at acts i)) →
        x ≡ g (action_at acts n) →
        (kept'.fresh ≡ x) × (kept'.old ≡ min kept.old kept.fresh) → Keeps g acts (n + 1) kept'
    keeps-abandoned g up is e = record {
      low =
          one_more (λ i. min kept'.old kept'.fresh ≤ g (action_at acts i)) n (λ i lt. omega (arith, e, h.low i lt, up i))
          (omega (arith, e, is));
      high = λ y top all. omega (arith, e, is, all n (omega arith));
    }

  -- all are gone through, and no old price is less
  pub keeps-least : {f : Action → ℕ} {kept : Kept} → Keeps f acts (length acts) kept → 0 < length acts →
      ((a : Action) → f a ≤ no_plan) →
      kept.fresh ≤ kept.old → kept.fresh ≡ least f acts
  keeps-least {f} {kept} h some small le =
      let lower = least_above f acts (min kept.old kept.fresh) (omega (arith, h.low 0 some, small (action_at acts 0))) h.low in
      let upper = h.high (least f acts) (least-small f acts) (least-below f acts) in
      omega (arith, lower, upper)
