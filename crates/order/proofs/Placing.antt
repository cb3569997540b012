-- What placing keeps: no number twice, and every finding behind its junction. So an order of all stages is a renumbering.
use Prim.Native.Nat.{ℕ, zero, suc, ◌+◌, ◌<◌, ◌≤◌}
use mathlib.Core.Path.{◌≡◌, refl, ◌∙◌}
use mathlib.Core.Bool.{Bool, true, false, not}
use mathlib.Core.Logic.{◌⊎◌, inl, inr, ◌≢◌}
use mathlib.Core.List.{List, [], ◌∷◌, ◌++◌}
use native.Mathlib.Omega.{arith}
use lib.ListN.{length, length-append, get_or-append}
use lib.Seq.{get_or_at}
use lib.Dec.{ltb}
use borrow.Author.Tests.{ltb-true, not-true}
use Rattle.model.proofs.TestLaws.{also-true, every_true}
use Rattle.model.specs.Problem.{Problem, states, node_at}
use Rattle.model.specs.Tests.{fork}
use Rattle.theory.proofs.Basics.{lt-or-le, same_or_not, clash}
use Rattle.order.proofs.Counting.{times-append, times-own, times-other, among-times, not-among, place-append, place-last}
use Rattle.order.proofs.Counting.{place-below, all_listed, listed-perm, inverse-at}
use Rattle.order.specs.Claims.{Perm}
use Rattle.order.specs.Moved.{at}
use Rattle.order.specs.Order.{among, points_to, leaves, free, lowest, next, placing, order, place_of, inverse}
use Rattle.order.specs.Times.{times}

-- The lowest that passes: it passes, and none below it does.
pub lowest-passes : (k t : ℕ) (f : ℕ → Bool) → lowest k t f < t + k → f (lowest k t f) ≡ true
unfolding lowest
lowest-passes zero t f l = absurd (omega arith)
lowest-passes (suc k) t f l = go (f t) refl l (lowest-passes k (suc t) f)
  where
    go : (b : Bool) → f t ≡ b → fork b (λ _. t) (λ _. lowest k (suc t) f) < t + suc k →
        (lowest k (suc t) f < suc t + k → f (lowest k (suc t) f) ≡ true) → f (fork b (λ _. t) (λ _. lowest k (suc t) f)) ≡ true
    go true e l ih = e
    go false e l ih = ih (omega arith)

pub lowest-first : (k t : ℕ) (f : ℕ → Bool) (u : ℕ) → t ≤ u → u < t + k → u < lowest k t f → f u ≡ false
unfolding lowest
lowest-first zero t f u le lt l = absurd (omega arith)
lowest-first (suc k) t f u le lt l = go (f t) refl l (same_or_not u t) (lowest-first k (suc t) f u)
  where
    go : (b : Bool) → f t ≡ b → u < fork b (λ _. t) (λ _. lowest k (suc t) f) → (u ≡ t) ⊎ (u ≢ t) →
        (suc t ≤ u → u < suc t + k → u < lowest k (suc t) f → f u ≡ false) → f u ≡ false
    go true e l n ih = absurd (omega arith)
    go false e l (inl n) ih = rw n e
    go false e l (inr n) ih = ih (omega arith) (omega arith) l

-- and that is what makes it the lowest
pub lowest-is : (k t : ℕ) (f : ℕ → Bool) (m : ℕ) → t ≤ m → m < t + k → f m ≡ true → ((u : ℕ) → t ≤ u → u < m → f u ≡ false) → lowest k t f
    ≡ m
unfolding lowest
lowest-is zero t f m le lt h g = absurd (omega arith)
lowest-is (suc k) t f m le lt h g = go (f t) refl (same_or_not t m)
    (λ l. lowest-is k (suc t) f m l (omega arith) h (λ u a b. g u (omega arith) b))
  where
    go : (b : Bool) → f t ≡ b → (t ≡ m) ⊎ (t ≢ m) → (suc t ≤ m → lowest k (suc t) f ≡ m) → fork b (λ _. t) (λ _. lowest k (suc t) f) ≡ m
    go true e (inl n) ih = n
    go true e (inr n) ih = clash e (g t (omega arith) (omega arith))
    go false e (inl n) ih = clash h (rw (← n) e)
    go false e (inr n) ih = ih (omega arith)

pub lowest-none : (k t : ℕ) (f : ℕ → Bool) → ((u : ℕ) → t ≤ u → u < t + k → f u ≡ false) → lowest k t f ≡ t + k
unfolding lowest
lowest-none zero t f h = omega arith
lowest-none (suc k) t f h = rw (h t (omega arith) (omega arith))
    (lowest-none k (suc t) f (λ u a b. h u (omega arith) (omega arith)) ∙ omega arith)

-- what holds of the placed
pub record Placed (p : Problem) (xs : List ℕ) : Type 0 where
  pub below : (s : ℕ) → s < length xs → at xs s < states p
  pub once : (t : ℕ) → times t xs ≤ 1
  -- whoever points to a placed stage is placed before it
  pub forward : (s t : ℕ) → s < states p → points_to (node_at p s) t ≡ true → 1 ≤ times t xs → (1 ≤ times s xs) ×
      (place_of xs s < place_of xs t)

pub nothing_placed : (p : Problem) → Placed p []
unfolding times
nothing_placed p = record { below = λ s l. absurd (omega arith); once = λ t. omega arith; forward = λ s t l e h. absurd (omega arith) }

pub free-unplaced : (p : Problem) (xs : List ℕ) (t : ℕ) → free p xs t ≡ true → times t xs ≡ 0
unfolding free
free-unplaced p xs t h = not-among t xs (not-true _ (also-true _ _ h).0)

pub free-pointed : (p : Problem) (xs : List ℕ) (t : ℕ) → free p xs t ≡ true → (s : ℕ) → s < states p → points_to (node_at p s) t ≡ true → 1
    ≤ times s xs
unfolding free leaves
free-pointed p xs t h s l e = go (among s xs) refl (every_true (states p) _ (also-true _ _ h).1 s l)
  where
    go : (b : Bool) → among s xs ≡ b → fork b (λ _. true) (λ _. not (points_to (node_at p s) t)) ≡ true → 1 ≤ times s xs
    go true a g = among-times s xs a
    go false a g = clash e (not-true _ g)

module _ (p : Problem) (xs : List ℕ) (t : ℕ) (l : t < states p) (fr : free p xs t ≡ true) (h : Placed p xs) where
  abbrev more : List ℕ
  more = xs ++ (t ∷ [])

  absent : times t xs ≡ 0
  absent = free-unplaced p xs t fr

  more-below : (s : ℕ) → s < length more → at more s < states p
  more-below s lt = go (lt-or-le s (length xs))
    where
      go : (s < length xs) ⊎ (length xs ≤ s) → at more s < states p
      go (inl g) = rw (get_or-append xs (t ∷ []) 0 s g) (h.below s g)
      go (inr g) = rw (get_or_at xs t [] 0 s (omega (arith, length-append xs (t ∷ [])))) l

  more-once : (u : ℕ) → times u more ≤ 1
  more-once u = go (same_or_not u t)
    where
      go : (u ≡ t) ⊎ (u ≢ t) → times u more ≤ 1
      go (inl e) = rw e (omega (arith, times-append t xs (t ∷ []), times-own t, absent))
      go (inr n) = omega (arith, times-append u xs (t ∷ []), times-other u t n, h.once u)

  more-forward : (s u : ℕ) → s < states p → points_to (node_at p s) u ≡ true → 1 ≤ times u more → (1 ≤ times s more) ×
      (place_of more s < place_of more u)
  more-forward s u ls e m = go (same_or_not u t)
    where
      old : 1 ≤ times s xs → 1 ≤ times s more
      old a = omega (arith, times-append s xs (t ∷ []))

      go : (u ≡ t) ⊎ (u ≢ t) → (1 ≤ times s more) × (place_of more s < place_of more u)
      go (inl n) =
          let a : 1 ≤ times s xs = free-pointed p xs t fr s ls (rw (← n) e) in
          (old a, rw n (omega (arith, place-append s xs (t ∷ []) a, place-last t xs absent, (place-below s xs a).0)))
      go (inr n) =
          let b : 1 ≤ times u xs = omega (arith, times-append u xs (t ∷ []), times-other u t n) in
          let r = h.forward s u ls e b in
          (old r.0, omega (arith, r.1, place-append s xs (t ∷ []) r.0, place-append u xs (t ∷ []) b))

  pub more-placed : Placed p more
  more-placed = record { below = more-below; once = more-once; forward = more-forward }

pub placing-placed : (p : Problem) (k : ℕ) (xs : List ℕ) → Placed p xs → Placed p (placing p k xs)
unfolding placing
placing-placed p zero xs h = h
placing-placed p (suc k) xs h = go (ltb (next p xs) (states p)) refl (placing-placed p k (xs ++ (next p xs ∷ [])))
  where
    go : (b : Bool) → ltb (next p xs) (states p) ≡ b →
        (Placed p (xs ++ (next p xs ∷ [])) → Placed p (placing p k (xs ++ (next p xs ∷ [])))) →
        Placed p (fork b (λ _. placing p k (xs ++ (next p xs ∷ []))) (λ _. xs))
    go true e ih = let l = ltb-true _ _ e in ih (more-placed p xs (next p xs) l (lowest-passes (states p) 0 (free p xs) (omega arith)) h)
    go false e ih = h

pub order-placed : (p : Problem) → Placed p (order p)
unfolding order
order-placed p = placing-placed p (states p) [] (nothing_placed p)

-- at most all stages are placed
placing-most : (p : Problem) (k : ℕ) (xs : List ℕ) → length (placing p k xs) ≤ length xs + k
unfolding placing
placing-most p zero xs = omega arith
placing-most p (suc k) xs = go (ltb (next p xs) (states p)) (placing-most p k (xs ++ (next p xs ∷ [])))
  where
    go : (b : Bool) → length (placing p k (xs ++ (next p xs ∷ []))) ≤ length (xs ++ (next p xs ∷ [])) + k → length
        (fork b (λ _. placing p k (xs ++ (next p xs ∷ []))) (λ _. xs)) ≤ length xs + suc k
    go true ih = omega (arith, length-append xs (next p xs ∷ []))
    go false ih = omega arith

pub order-most : (p : Problem) → length (order p) ≤ states p
unfolding order
order-most p = omega (arith, placing-most p (states p) [])

-- An order of all stages.
module _ (p : Problem) (full : length (order p) ≡ states p) where
  pub all_placed : (t : ℕ) → t < states p → 1 ≤ times t (order p)
  all_placed = all_listed (states p) (order p) full (λ s l. (order-placed p).below s (omega arith)) (order-placed p).once

  -- is a renumbering
  pub order-perm : Perm (states p) (order p) (inverse (order p))
  order-perm = listed-perm (states p) (order p) full all_placed

  -- by which every finding's new number is above its junction's
  pub order-forward : (s t : ℕ) → s < states p → t < states p → points_to (node_at p s) t ≡ true → at (inverse (order p)) s < at
      (inverse (order p)) t
  order-forward s t ls lt e =
      omega (
        arith,
        ((order-placed p).forward s t ls e (all_placed t lt)).1,
        inverse-at (states p) (order p) full all_placed s ls,
        inverse-at (states p) (order p) full all_placed t lt,
      )
