-- Numbers in a list, counted: a list of n numbers that has every number below n has each once, and is a renumbering.
use Prim.Native.Nat.{ℕ, zero, suc, ◌+◌, ◌<◌, ◌≤◌}
use mathlib.Core.Path.{◌≡◌, refl, sym, ap, ◌∙◌}
use mathlib.Core.Bool.{Bool, true, false}
use mathlib.Core.Logic.{◌⊎◌, inl, inr, ◌≢◌}
use mathlib.Core.List.{List, [], ◌∷◌, ◌++◌}
use native.Mathlib.Omega.{arith}
use lib.ListN.{length, length-map}
use lib.Dec.{eqb, ltb}
use borrow.Author.Tests.{eqb-true, eq-eqb, ne_eqb, lt-ltb, le-ltb}
use Rattle.model.proofs.TestLaws.{every_true, never}
use Rattle.model.specs.Optimal.{sum_below}
use Rattle.model.specs.Tests.{fork}
use Rattle.theory.proofs.Basics.{lt-or-le, same_or_not, sum_mono, sum-strict, clash}
use Rattle.order.proofs.Costs.{get_d_map}
use Rattle.order.specs.Claims.{Perm}
use Rattle.order.specs.Moved.{at}
use Rattle.order.specs.Order.{among, up_from, place_of, inverse, lists}
use Rattle.order.specs.Times.{one, times}

pub one_same : (t : ℕ) → one (eqb t t) ≡ 1
unfolding one
one_same t = rw (eq-eqb t t refl)

pub one-other : (t u : ℕ) → t ≢ u → one (eqb t u) ≡ 0
unfolding one
one-other t u n = rw (ne_eqb t u n)

pub times-append : (t : ℕ) (xs ys : List ℕ) → times t (xs ++ ys) ≡ times t xs + times t ys
unfolding times
times-append t [] ys = omega arith
times-append t (x ∷ xs) ys = omega (arith, times-append t xs ys)

pub times-own : (t : ℕ) → times t (t ∷ []) ≡ 1
unfolding times
times-own t = omega (arith, one_same t)

pub times-other : (t u : ℕ) → t ≢ u → times t (u ∷ []) ≡ 0
unfolding times
times-other t u n = omega (arith, one-other t u n)

-- listed, by the test and by the count
pub among-times : (t : ℕ) (xs : List ℕ) → among t xs ≡ true → 1 ≤ times t xs
unfolding among times one
among-times t [] h = never h
among-times t (u ∷ us) h = go (eqb t u) h (among-times t us)
  where
    go : (b : Bool) → fork b (λ _. true) (λ _. among t us) ≡ true → (among t us ≡ true → 1 ≤ times t us) → 1 ≤ one b + times t us
    go true h ih = omega arith
    go false h ih = omega (arith, ih h)

pub not-among : (t : ℕ) (xs : List ℕ) → among t xs ≡ false → times t xs ≡ 0
unfolding among times one
not-among t [] h = refl
not-among t (u ∷ us) h = go (eqb t u) h (not-among t us)
  where
    go : (b : Bool) → fork b (λ _. true) (λ _. among t us) ≡ false → (among t us ≡ false → times t us ≡ 0) → one b + times t us ≡ 0
    go true h ih = clash refl h
    go false h ih = omega (arith, ih h)

pub times-among : (t : ℕ) (xs : List ℕ) → 1 ≤ times t xs → among t xs ≡ true
times-among t xs h = go (among t xs) refl
  where
    go : (b : Bool) → among t xs ≡ b → b ≡ true
    go true e = refl
    go false e = absurd (omega (arith, not-among t xs e))

-- The place of a listed number.
pub place-below : (t : ℕ) (xs : List ℕ) → 1 ≤ times t xs → (place_of xs t < length xs) × (at xs (place_of xs t) ≡ t)
unfolding times place_of one
place-below t [] h = absurd (omega arith)
place-below t (u ∷ us) h = go (eqb t u) refl h (place-below t us)
  where
    go : (b : Bool) → eqb t u ≡ b → 1 ≤ one b + times t us → (1 ≤ times t us → (place_of us t < length us) × (at us (place_of us t) ≡ t)) →
        (fork b (λ _. 0) (λ _. suc (place_of us t)) < suc (length us)) × (at (u ∷ us) (fork b (λ _. 0) (λ _. suc (place_of us t))) ≡ t)
    go true e h ih = (omega arith, sym (eqb-true t u e))
    go false e h ih = let r = ih (omega arith) in (omega (arith, r.0), r.1)

pub place-append : (t : ℕ) (xs ys : List ℕ) → 1 ≤ times t xs → place_of (xs ++ ys) t ≡ place_of xs t
unfolding times place_of one
place-append t [] ys h = absurd (omega arith)
place-append t (u ∷ us) ys h = go (eqb t u) h (place-append t us ys)
  where
    go : (b : Bool) → 1 ≤ one b + times t us → (1 ≤ times t us → place_of (us ++ ys) t ≡ place_of us t) → fork b (λ _. 0)
        (λ _. suc (place_of (us ++ ys) t)) ≡ fork b (λ _. 0) (λ _. suc (place_of us t))
    go true h ih = refl
    go false h ih = ap suc (ih (omega arith))

pub place-last : (t : ℕ) (xs : List ℕ) → times t xs ≡ 0 → place_of (xs ++ (t ∷ [])) t ≡ length xs
unfolding times place_of one
place-last t [] h = rw (eq-eqb t t refl)
place-last t (u ∷ us) h = go (eqb t u) h (place-last t us)
  where
    go : (b : Bool) → one b + times t us ≡ 0 → (times t us ≡ 0 → place_of (us ++ (t ∷ [])) t ≡ length us) → fork b (λ _. 0)
        (λ _. suc (place_of (us ++ (t ∷ [])) t)) ≡ suc (length us)
    go true h ih = absurd (omega arith)
    go false h ih = ap suc (ih (omega arith))

-- what stands in a list is listed
pub at-times : (xs : List ℕ) (s : ℕ) → s < length xs → 1 ≤ times (at xs s) xs
unfolding times
at-times [] s l = absurd (omega arith)
at-times (x ∷ xs) zero l = omega (arith, one_same x)
at-times (x ∷ xs) (suc s) l = omega (arith, at-times xs s (omega arith))

-- a number that stands at its first place and further on is listed twice
twice : (t : ℕ) (xs : List ℕ) (s : ℕ) → s < length xs → at xs s ≡ t → place_of xs t < s → 2 ≤ times t xs
unfolding times place_of one
twice t [] s l e lt = absurd (omega arith)
twice t (u ∷ us) zero l e lt = absurd (omega arith)
twice t (u ∷ us) (suc s) l e lt = go (eqb t u) lt (twice t us s (omega arith) e)
  where
    go : (b : Bool) → fork b (λ _. 0) (λ _. suc (place_of us t)) < suc s → (place_of us t < s → 2 ≤ times t us) → 2 ≤ one b + times t us
    go true lt ih = let m : 1 ≤ times t us = rw (← e) (at-times us s (omega arith)) in omega arith
    go false lt ih = omega (arith, ih (omega arith))

pub place-first : (t : ℕ) (xs : List ℕ) (s : ℕ) → s < length xs → at xs s ≡ t → place_of xs t ≤ s
unfolding place_of
place-first t [] s l e = absurd (omega arith)
place-first t (u ∷ us) zero l e = rw (eq-eqb t u (sym e)) (omega arith)
place-first t (u ∷ us) (suc s) l e = go (eqb t u) (place-first t us s (omega arith) e)
  where
    go : (b : Bool) → place_of us t ≤ s → fork b (λ _. 0) (λ _. suc (place_of us t)) ≤ suc s
    go true ih = omega arith
    go false ih = omega arith

-- The counts of the numbers below n, added up, are the entries below n.
within : ℕ → List ℕ → ℕ
within n [] = 0
within n (u ∷ us) = one (ltb u n) + within n us

sum_ones : (u n : ℕ) → sum_below n (λ t. one (eqb t u)) ≡ one (ltb u n)
unfolding sum_below one
sum_ones u zero = rw (le-ltb u 0 (omega arith))
sum_ones u (suc n) = go (sum_ones u n) (lt-or-le u n) (same_or_not n u)
  where
    go : sum_below n (λ t. one (eqb t u)) ≡ one (ltb u n) → (u < n) ⊎ (n ≤ u) → (n ≡ u) ⊎ (n ≢ u) → sum_below n (λ t. one (eqb t u)) + one
        (eqb n u) ≡ one (ltb u (suc n))
    go ih (inl l) (inl e) = absurd (omega arith)
    go ih (inl l) (inr e) = rw (ih, ne_eqb n u e, lt-ltb u n l, lt-ltb u (suc n) (omega arith))
    go ih (inr l) (inl e) = rw (ih, eq-eqb n u e, le-ltb u n l, lt-ltb u (suc n) (omega arith))
    go ih (inr l) (inr e) = rw (ih, ne_eqb n u e, le-ltb u n l, le-ltb u (suc n) (omega arith))

sum-zero : (n : ℕ) → sum_below n (λ t. 0) ≡ 0
unfolding sum_below
sum-zero zero = refl
sum-zero (suc n) = omega (arith, sum-zero n)

sum_one : (n : ℕ) → sum_below n (λ t. 1) ≡ n
unfolding sum_below
sum_one zero = refl
sum_one (suc n) = omega (arith, sum_one n)

pub sum-add : (f g : ℕ → ℕ) (n : ℕ) → sum_below n (λ t. f t + g t) ≡ sum_below n f + sum_below n g
unfolding sum_below
sum-add f g zero = refl
sum-add f g (suc n) = omega (arith, sum-add f g n)

-- n times at least 1, and once at least 2
sum-least : (f : ℕ → ℕ) (n : ℕ) → ((t : ℕ) → t < n → 1 ≤ f t) → n ≤ sum_below n f
unfolding sum_below
sum-least f zero h = omega arith
sum-least f (suc n) h = omega (arith, sum-least f n (λ t l. h t (omega arith)), h n (omega arith))

sum_more : (f : ℕ → ℕ) (n t : ℕ) → ((t : ℕ) → t < n → 1 ≤ f t) → t < n → 2 ≤ f t → n < sum_below n f
unfolding sum_below
sum_more f zero t h l two = absurd (omega arith)
sum_more f (suc n) t h l two = go (same_or_not t n) (λ g. sum_more f n t (λ t l. h t (omega arith)) g two)
  where
    go : (t ≡ n) ⊎ (t ≢ n) → (t < n → n < sum_below n f) → suc n < sum_below n f + f n
    go (inl e) ih = let two' : 2 ≤ f n = rw (← e) two in omega (arith, sum-least f n (λ t l. h t (omega arith)))
    go (inr e) ih = omega (arith, ih (omega arith), h n (omega arith))

sum-times : (n : ℕ) (xs : List ℕ) → sum_below n (λ t. times t xs) ≡ within n xs
unfolding times within
sum-times n [] = sum-zero n
sum-times n (u ∷ us) = sum-add (λ t. one (eqb t u)) (λ t. times t us) n ∙ omega (arith, sum_ones u n, sum-times n us)

pub one-most : (b : Bool) → one b ≤ 1
unfolding one
one-most true = omega arith
one-most false = omega arith

within-most : (n : ℕ) (xs : List ℕ) → within n xs ≤ length xs
unfolding within
within-most n [] = omega arith
within-most n (u ∷ us) = omega (arith, within-most n us, one-most (ltb u n))

within_all : (n : ℕ) (xs : List ℕ) → ((s : ℕ) → s < length xs → at xs s < n) → within n xs ≡ length xs
unfolding within one
within_all n [] h = refl
within_all n (u ∷ us) h = rw (lt-ltb u n (h 0 (omega arith))) (omega (arith, within_all n us (λ s l. h (suc s) (omega arith))))

within-less : (n : ℕ) (xs : List ℕ) (s : ℕ) → s < length xs → n ≤ at xs s → within n xs < length xs
unfolding within one
within-less n [] s l h = absurd (omega arith)
within-less n (u ∷ us) zero l h = rw (le-ltb u n h) (omega (arith, within-most n us))
within-less n (u ∷ us) (suc s) l h = omega (arith, within-less n us s (omega arith) h, one-most (ltb u n))

-- n different numbers below n are all of them
pub all_listed : (n : ℕ) (xs : List ℕ) → length xs ≡ n → ((s : ℕ) → s < n → at xs s < n) → ((t : ℕ) → times t xs ≤ 1) → (t : ℕ) → t < n →
    1 ≤ times t xs
all_listed n xs len below once t l = go (lt-or-le (times t xs) 1)
  where
    go : (times t xs < 1) ⊎ (1 ≤ times t xs) → 1 ≤ times t xs
    go (inr h) = h
    go (inl h) = absurd
        (omega (
          arith,
          sum-strict (λ t. times t xs) (λ t. 1) once n t l h,
          sum_one n,
          sum-times n xs,
          within_all n xs
              (λ s l. below s (omega arith)),
          len,
        ))

-- more than n numbers below n: one of them is listed twice
pub some-twice : (n : ℕ) (xs : List ℕ) → n < length xs → ((s : ℕ) → s < length xs → at xs s < n) → ((t : ℕ) → times t xs ≤ 1) → ⊥
some-twice n xs len below once = omega (arith, sum_mono (λ t. times t xs) (λ t. 1) once n, sum_one n, sum-times n xs, within_all n xs below)

from_length : (s n : ℕ) → length (up_from s n) ≡ n
unfolding up_from
from_length s zero = refl
from_length s (suc n) = ap suc (from_length (suc s) n)

from_at : (s n i : ℕ) → i < n → at (up_from s n) i ≡ s + i
unfolding up_from
from_at s zero i l = absurd (omega arith)
from_at s (suc n) zero l = omega arith
from_at s (suc n) (suc i) l = omega (arith, from_at (suc s) n i (omega arith))

-- a list of n numbers that has every number below n is a renumbering, and its inverse is the way back
module _ (n : ℕ) (xs : List ℕ) (len : length xs ≡ n) (has : (t : ℕ) → t < n → 1 ≤ times t xs) where
  below : (s : ℕ) → s < n → at xs s < n
  below s l = go (lt-or-le (at xs s) n)
    where
      go : (at xs s < n) ⊎ (n ≤ at xs s) → at xs s < n
      go (inl h) = h
      go (inr h) = absurd (omega (arith, within-less n xs s (omega arith) h, sum-times n xs, sum-least (λ t. times t xs) n has))

  first : (s : ℕ) → s < n → place_of xs (at xs s) ≡ s
  first s l = go (lt-or-le (place_of xs (at xs s)) s)
    where
      go : (place_of xs (at xs s) < s) ⊎ (s ≤ place_of xs (at xs s)) → place_of xs (at xs s) ≡ s
      go (inr h) = omega (arith, place-first (at xs s) xs s (omega arith) refl)
      go (inl h) = absurd
          (omega (
            arith,
            sum_more (λ t. times t xs) n (at xs s) has (below s l) (twice (at xs s) xs s (omega arith) refl h),
            sum-times n
                xs,
            within-most n xs,
            len,
          ))

  pub inverse-at : (t : ℕ) → t < n → at (inverse xs) t ≡ place_of xs t
  unfolding inverse
  inverse-at t l =
      get_d_map (place_of xs) (up_from 0 (length xs)) t 0 0 (omega (arith, from_length 0 (length xs))) ∙
      ap (place_of xs) (omega (arith, from_at 0 (length xs) t (omega arith)))

  pub listed-perm : Perm n xs (inverse xs)
  unfolding inverse
  listed-perm = record {
    from_length = len;
    to_length = length-map (up_from 0 (length xs)) (place_of xs) ∙ (from_length 0 (length xs) ∙ len);
    from_below = below;
    to_below = λ t l. omega (arith, inverse-at t l, place-below t xs (has t l));
    to_from = λ s l. inverse-at (at xs s) (below s l) ∙ first s l;
    from_to = λ t l. ap (at xs) (inverse-at t l) ∙ (place-below t xs (has t l)).1;
  }

-- the inverse's question 11
pub lists-perm : (n : ℕ) (xs : List ℕ) → length xs ≡ n → lists n xs ≡ true → Perm n xs (inverse xs)
unfolding lists
lists-perm n xs len h = listed-perm n xs len (λ t l. among-times t xs (every_true n _ h t l))

-- fewer than n numbers leave one below n out
pub too_few : (n : ℕ) (xs : List ℕ) → length xs < n → lists n xs ≡ true → ⊥
unfolding lists
too_few n xs l h = omega
    (arith, sum-least (λ t. times t xs) n (λ t lt. among-times t xs (every_true n _ h t lt)), sum-times n xs, within-most n xs)

-- a renumbering lists each number once
pub perm-once : (n : ℕ) (from to : List ℕ) → Perm n from to → (t : ℕ) → t < n → times t from ≡ 1
perm-once n from to h t l = go (lt-or-le 1 (times t from))
  where
    has : (t : ℕ) → t < n → 1 ≤ times t from
    has t l = rw (h.from_to t l) at (at-times from (at to t) (omega (arith, h.from_length, h.to_below t l)))

    go : (1 < times t from) ⊎ (times t from ≤ 1) → times t from ≡ 1
    go (inl two) = absurd (omega (arith, sum_more (λ t. times t from) n t has l two, sum-times n from, within-most n from, h.from_length))
    go (inr le) = omega (arith, has t l)
