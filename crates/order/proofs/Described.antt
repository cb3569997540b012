-- The order is the one that S13.2 describes, and no other list is.
use Prim.Native.Nat.{ℕ, zero, suc, ◌<◌, ◌≤◌}
use mathlib.Core.Path.{◌≡◌, refl, sym, ◌∙◌, subst}
use mathlib.Core.Bool.{Bool, true, false, not}
use mathlib.Core.Logic.{◌⊎◌, inl, inr}
use mathlib.Core.List.{List, [], ◌∷◌, ◌++◌}
use native.Mathlib.Omega.{arith}
use borrow.Author.Tests.{not-true}
use lib.Dec.{ltb}
use lib.ListN.{length, take, length-append, get_or-append}
use lib.Seq.{take_at, take_all, take-suc, take-append-le, get_or_at}
use Rattle.model.proofs.TestLaws.{also-true, true-also, true-every}
use Rattle.model.specs.Tests.{fork}
use Rattle.model.specs.Problem.{Problem, states, node_at}
use Rattle.theory.proofs.Basics.{lt-or-le, clash}
use Rattle.order.proofs.Circles.{pointing-state, placing-ends}
use Rattle.order.proofs.Counting.{times-among}
use Rattle.order.proofs.Placing.{lowest-passes, lowest-first, free-pointed, order-placed, order-most, all_placed}
use Rattle.order.proofs.Pointing.{among_in, in-among}
use Rattle.order.specs.Claims.{MayFollow, IsOrder}
use Rattle.order.specs.Moved.{at}
use Rattle.order.specs.Order.{among, points_to, leaves, free, next, placing, order}

-- The test whether a stage may be placed, in words.
module _ (p : Problem) (placed : List ℕ) (t : ℕ) where
  free-may : t < states p → free p placed t ≡ true → MayFollow p placed t
  unfolding free
  free-may l h = record {
    stage = l;
    unplaced = λ m. clash (in-among m) (not-true _ (also-true _ _ h).0);
    pointed = λ s e. among_in s placed (times-among s placed (free-pointed p placed t h s (pointing-state p s t e) e));
  }

  may_free : MayFollow p placed t → free p placed t ≡ true
  unfolding free leaves
  may_free h = true-also _ _ (absent (among t placed) refl) (true-every (states p) _ (λ s l. left s (among s placed) refl))
    where
      absent : (b : Bool) → among t placed ≡ b → not b ≡ true
      absent true e = absurd (h.unplaced (among_in t placed e))
      absent false e = refl

      silent : (s : ℕ) → among s placed ≡ false → (b : Bool) → points_to (node_at p s) t ≡ b → not b ≡ true
      silent s e true g = clash (in-among (h.pointed s g)) e
      silent s e false g = refl

      left : (s : ℕ) (b : Bool) → among s placed ≡ b → fork b (λ _. true) (λ _. not (points_to (node_at p s) t)) ≡ true
      left s true e = refl
      left s false e = silent s e (points_to (node_at p s) t) refl

-- What is placed next is the lowest that may be; where that is no stage, none may.
module _ (p : Problem) (placed : List ℕ) where
  next-may : next p placed < states p → MayFollow p placed (next p placed)
  next-may l = free-may p placed (next p placed) l (lowest-passes (states p) 0 (free p placed) (omega arith))

  next-lowest : (t : ℕ) → MayFollow p placed t → next p placed ≤ t
  next-lowest t h = go (lt-or-le t (next p placed))
    where
      go : (t < next p placed) ⊎ (next p placed ≤ t) → next p placed ≤ t
      go (inl lt) =
          clash (may_free p placed t h) (lowest-first (states p) 0 (free p placed) t (omega arith) (omega (arith, h.stage)) lt)
      go (inr le) = le

-- some stages and what is placed next
abbrev more : Problem → List ℕ → List ℕ
more p xs = xs ++ (next p xs ∷ [])

-- Each place has what is placed next there.
placing-next : (p : Problem) (m : ℕ) (xs : List ℕ) → ((k : ℕ) → k < length xs → at xs k ≡ next p (take k xs)) →
    (k : ℕ) → k < length (placing p m xs) → at (placing p m xs) k ≡ next p (take k (placing p m xs))
unfolding placing
placing-next p zero xs h = h
placing-next p (suc m) xs h = go (ltb (next p xs) (states p)) (placing-next p m (more p xs) more-next)
  where
    more-next : (k : ℕ) → k < length (more p xs) → at (more p xs) k ≡ next p (take k (more p xs))
    more-next k l = by (lt-or-le k (length xs))
      where
        by : (k < length xs) ⊎ (length xs ≤ k) → at (more p xs) k ≡ next p (take k (more p xs))
        by (inl lt) = rw (get_or-append xs (next p xs ∷ []) 0 k lt, take-append-le k xs (next p xs ∷ []) (omega arith)) (h k lt)
        by (inr ge) =
            let e : k ≡ length xs = omega (arith, length-append xs (next p xs ∷ [])) in
            rw (get_or_at xs (next p xs) [] 0 k (sym e), take_at xs (next p xs ∷ []) k (sym e))

    go : (b : Bool) →
        ((k : ℕ) → k < length (placing p m (more p xs)) → at (placing p m (more p xs)) k ≡ next p (take k (placing p m (more p xs)))) →
        (k : ℕ) → k < length (fork b (λ _. placing p m (more p xs)) (λ _. xs)) →
        at (fork b (λ _. placing p m (more p xs)) (λ _. xs)) k ≡ next p (take k (fork b (λ _. placing p m (more p xs)) (λ _. xs)))
    go true ih = ih
    go false ih = h

pub order_is : (p : Problem) → IsOrder p (order p)
unfolding order
order_is p = record {
  follows = λ k l. subst (MayFollow p (take k (order p))) (sym (at_next k l)) (next-may p (take k (order p)) (stage k l));
  lowest = λ k l t h. rw (at_next k l) (next-lowest p (take k (order p)) t h);
  ended = λ t h. end t h (placing-ends p (states p) [] (omega arith));
}
  where
    at_next : (k : ℕ) → k < length (order p) → at (order p) k ≡ next p (take k (order p))
    at_next = placing-next p (states p) [] (λ k l. absurd (omega arith))

    stage : (k : ℕ) → k < length (order p) → next p (take k (order p)) < states p
    stage k l = subst (λ (t : ℕ). t < states p) (at_next k l) ((order-placed p).below k l)

    end : (t : ℕ) → MayFollow p (order p) t → (states p ≤ length (order p)) ⊎ (states p ≤ next p (order p)) → ⊥
    end t h (inl full) =
        let all : length (order p) ≡ states p = omega (arith, order-most p) in
        h.unplaced (among_in t (order p) (times-among t (order p) (all_placed p all t h.stage)))
    end t h (inr stuck) = omega (arith, next-lowest p (order p) t h, h.stage)

-- Two lists that are orders begin alike, as far as both go; and neither goes further than the other.
module _ (p : Problem) (xs ys : List ℕ) (hx : IsOrder p xs) (hy : IsOrder p ys) where
  alike : (k : ℕ) → k ≤ length xs → k ≤ length ys → take k xs ≡ take k ys
  alike zero lx ly = refl
  alike (suc k) lx ly =
      let same = alike k (omega arith) (omega arith) in
      let x = subst (λ (l : List ℕ). MayFollow p l (at xs k)) same (hx.follows k lx) in
      let y = subst (λ (l : List ℕ). MayFollow p l (at ys k)) (sym same) (hy.follows k ly) in
      let e : at xs k ≡ at ys k = omega (arith, hx.lowest k lx (at ys k) y, hy.lowest k ly (at xs k) x) in
      rw (take-suc xs k 0 lx, take-suc ys k 0 ly, same, e)

  no-further : length xs < length ys → ⊥
  no-further l =
      let begins : xs ≡ take (length xs) ys = sym (take_all (length xs) xs (omega arith)) ∙ alike (length xs) (omega arith) (omega arith) in
      hx.ended (at ys (length xs)) (subst (λ (l : List ℕ). MayFollow p l (at ys (length xs))) (sym begins) (hy.follows (length xs) l))

pub order-only : (p : Problem) (xs : List ℕ) → IsOrder p xs → xs ≡ order p
order-only p xs h = go (lt-or-le (length xs) (length (order p))) (lt-or-le (length (order p)) (length xs))
  where
    go : (length xs < length (order p)) ⊎ (length (order p) ≤ length xs) →
        (length (order p) < length xs) ⊎ (length xs ≤ length (order p)) → xs ≡ order p
    go (inl l) g = absurd (no-further p xs (order p) h (order_is p) l)
    go (inr le) (inl l) = absurd (no-further p (order p) xs (order_is p) h l)
    go (inr le) (inr ge) =
        sym (take_all (length xs) xs (omega arith)) ∙ alike p xs (order p) h (order_is p) (length xs) (omega arith) ge ∙
        take_all (length xs) (order p) le
