-- Facts of costs: how they compare, and how they are written.
use Prim.Native.Nat.{ℕ, ◌+◌, ◌<◌, ◌≤◌, min, max}
use mathlib.Core.Path.{◌≡◌, refl, ap, sym}
use mathlib.Core.Logic.{◌⊎◌, inl, inr}
use mathlib.Core.Option.{none, some}
use native.Mathlib.Omega.{arith}
use Rattle.model.specs.Limits.{ceiling, no_plan}
use Rattle.model.specs.Cost.{Cost, cut, amount, cost_of, both, lesser, ◌⊑◌}
use Rattle.layout.proofs.Prices.{cost-within, cost-above}
use Rattle.theory.proofs.Basics.{lt-or-le}

pub at-most-same : (c : Cost) → c ⊑ c
at-most-same none = tt
at-most-same (some x) = omega arith

pub at-most-then : (a b c : Cost) → a ⊑ b → b ⊑ c → a ⊑ c
at-most-then a b none h g = tt
at-most-then a none (some z) h g = absurd g
at-most-then none (some y) (some z) h g = absurd h
at-most-then (some x) (some y) (some z) h g = omega arith

pub at-most-both : (c d : Cost) → c ⊑ d → d ⊑ c → c ≡ d
at-most-both none none h g = refl
at-most-both none (some y) h g = absurd h
at-most-both (some x) none h g = absurd g
at-most-both (some x) (some y) h g = ap some (omega arith)

-- what is at most some number is some number, at most that
pub at-most-some : (c : Cost) (y : ℕ) → c ⊑ some y → (x : ℕ) × (c ≡ some x) × (x ≤ y)
at-most-some none y h = absurd h
at-most-some (some x) y h = (x, refl, h)

pub not_some {ℓ} : {T : Type ℓ} {c : Cost} {x : ℕ} → c ≡ none → c ≡ some x → T
not_some h g = let z : ◌≡◌ {A = ℕ} 0 1 = cc in absurd (omega arith)

pub zero-most : (c : Cost) → some 0 ⊑ c
zero-most none = tt
zero-most (some x) = omega arith

-- As written: none is above every other amount.
pub amount-small : (c : Cost) → amount c ≤ no_plan
unfolding amount
amount-small none = omega arith
amount-small (some x) = omega arith

pub amount-mono : (c d : Cost) → c ⊑ d → amount c ≤ amount d
unfolding amount
amount-mono c none h = amount-small c
amount-mono none (some y) h = absurd h
amount-mono (some x) (some y) h = omega arith

-- a number that is not above the ceiling is written as it is
pub amount-some : (x : ℕ) → x ≤ ceiling → amount (some x) ≡ x
unfolding amount
amount-some x h = omega arith

-- a number is never written above the ceiling
pub amount-number : (x : ℕ) → amount (some x) ≤ ceiling
unfolding amount
amount-number x = omega arith

-- a number that is not below the ceiling is written as the ceiling, and none as 1,000,000,001
pub amount-over : (x : ℕ) → ceiling ≤ x → amount (some x) ≡ ceiling
unfolding amount
amount-over x h = omega arith

pub amount-none : amount none ≡ no_plan
unfolding amount
amount-none = refl

-- what an amount below the ceiling, at it and above it says of the cost
pub amount-below : (c : Cost) → amount c < ceiling → c ≡ some (amount c)
unfolding amount
amount-below none h = absurd (omega arith)
amount-below (some x) h = ap some (omega arith)

pub amount-within : (c : Cost) → amount c ≤ ceiling → (x : ℕ) × (c ≡ some x) × (amount c ≤ x)
unfolding amount
amount-within none h = absurd (omega arith)
amount-within (some x) h = (x, refl, omega arith)

pub amount-above : (c : Cost) → ceiling < amount c → c ≡ none
unfolding amount
amount-above none h = refl
amount-above (some x) h = absurd (omega arith)

-- A written value as a cost.
pub cost-mono : (x y : ℕ) → x ≤ y → cost_of x ⊑ cost_of y
cost-mono x y h = go (lt-or-le ceiling y)
  where
    go : (ceiling < y) ⊎ (y ≤ ceiling) → cost_of x ⊑ cost_of y
    go (inl l) = rw (cost-above y l) tt
    go (inr g) = rw (cost-within y g, cost-within x (omega arith)) h

-- an amount stands for a cost of that amount
pub amount-back : (c : Cost) → amount (cost_of (amount c)) ≡ amount c
unfolding amount
amount-back none = rw (cost-above no_plan (omega arith))
amount-back (some x) = rw (cost-within (cut x) (omega arith)) (omega arith)

-- what the theory needs of an operation on numbers
pub record Joins (op : ℕ → ℕ → ℕ) : Type 0 where
  pub mono : (a b c d : ℕ) → a ≤ c → b ≤ d → op a b ≤ op c d
  pub parts : (a b : ℕ) → (a ≤ op a b) × (b ≤ op a b)
  pub cuts : (a b : ℕ) → cut (op (cut a) (cut b)) ≡ cut (op a b)

pub adds : Joins ◌+◌
adds = record { mono = λ a b c d h g. omega arith; parts = λ a b. omega arith; cuts = λ a b. omega arith }

module _ {op : ℕ → ℕ → ℕ} (joins : Joins op) where
  pub both-mono : (a b c d : Cost) → a ⊑ c → b ⊑ d → both op a b ⊑ both op c d
  unfolding both
  both-mono a b none d h g = tt
  both-mono a b (some z) none h g = tt
  both-mono none b (some z) (some u) h g = absurd h
  both-mono (some x) none (some z) (some u) h g = absurd g
  both-mono (some x) (some y) (some z) (some u) h g = joins.mono x y z u h g

  pub both-parts : (c d : Cost) → (c ⊑ both op c d) × (d ⊑ both op c d)
  unfolding both
  both-parts none d = (tt, tt)
  both-parts (some x) none = (tt, tt)
  both-parts (some x) (some y) = joins.parts x y

  -- amounts are all that counts for an amount
  both-trim : (c d : Cost) → amount (both op c d) ≡ amount (both op (cost_of (amount c)) (cost_of (amount d)))
  unfolding amount both
  both-trim none d = rw (cost-above no_plan (omega arith))
  both-trim (some x) none = rw (cost-above no_plan (omega arith), cost-within (cut x) (omega arith))
  both-trim (some x) (some y) = rw (cost-within (cut x) (omega arith), cost-within (cut y) (omega arith)) (sym (joins.cuts x y))

  pub both-amount : (a b c d : Cost) → amount a ≡ amount c → amount b ≡ amount d → amount (both op a b) ≡ amount (both op c d)
  both-amount a b c d h g = cc (both-trim a b, both-trim c d)

-- the larger of two costs is at most what each of them is
pub larger-within : (a b c : Cost) → a ⊑ c → b ⊑ c → both max a b ⊑ c
unfolding both
larger-within a b none h g = tt
larger-within none b (some z) h g = absurd h
larger-within (some x) none (some z) h g = absurd g
larger-within (some x) (some y) (some z) h g = omega arith

-- each of two costs that come to some number is some number
pub both_some : (op : ℕ → ℕ → ℕ) (c d : Cost) (z : ℕ) → both op c d ≡ some z →
    (x y : ℕ) × (c ≡ some x) × (d ≡ some y)
unfolding both
both_some op none d z h = not_some refl h
both_some op (some x) none z h = not_some refl h
both_some op (some x) (some y) z h = (x, y, refl, refl)

-- The lesser of two.
pub lesser-left : (c d : Cost) → lesser c d ⊑ c
unfolding lesser
lesser-left none d = tt
lesser-left (some x) none = omega arith
lesser-left (some x) (some y) = omega arith

pub lesser-right : (c d : Cost) → lesser c d ⊑ d
unfolding lesser
lesser-right none d = at-most-same d
lesser-right (some x) none = tt
lesser-right (some x) (some y) = omega arith

pub lesser-either : (c d : Cost) → (lesser c d ≡ c) ⊎ (lesser c d ≡ d)
unfolding lesser
lesser-either none d = inr refl
lesser-either (some x) none = inl refl
lesser-either (some x) (some y) = go (lt-or-le x y)
  where
    go : (x < y) ⊎ (y ≤ x) → (◌≡◌ {A = Cost} (some (min x y)) (some x)) ⊎ (◌≡◌ {A = Cost} (some (min x y)) (some y))
    go (inl h) = inl (ap some (omega arith))
    go (inr h) = inr (ap some (omega arith))

pub lesser-amount : (c d : Cost) → amount (lesser c d) ≡ min (amount c) (amount d)
unfolding lesser amount
lesser-amount none d = omega (arith, amount-small d)
lesser-amount (some x) none = omega arith
lesser-amount (some x) (some y) = omega arith
