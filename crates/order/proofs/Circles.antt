-- Every stage is placed exactly when findings lead in no circle.
use Prim.Native.Nat.{ℕ, zero, suc, ◌+◌, ◌<◌, ◌≤◌}
use mathlib.Core.Path.{◌≡◌, refl, ap}
use mathlib.Core.Bool.{Bool, true, false, not}
use mathlib.Core.Logic.{◌⊎◌, inl, inr, ◌↔◌}
use mathlib.Core.List.{List, [], ◌∷◌, ◌++◌}
use native.Mathlib.Omega.{arith}
use lib.ListN.{length, length-append, get_or-eq_default}
use lib.Dec.{eqb, ltb}
use borrow.Author.Tests.{eqb-true, ltb-false, not-false}
use Rattle.model.proofs.TestLaws.{never}
use Rattle.model.specs.Problem.{terminal, Problem, states, node_at}
use Rattle.model.specs.Tests.{fork, also, every}
use Rattle.theory.proofs.Basics.{lt-or-le, clash}
use Rattle.order.proofs.Counting.{among-times, not-among, some-twice, too_few}
use Rattle.order.proofs.Placing.{lowest-first, Placed, order-placed, order-most, all_placed}
use Rattle.order.specs.Claims.{Chain, step, onward, Circle}
use Rattle.order.specs.Moved.{at}
use Rattle.order.specs.Order.{among, points_to, leaves, free, next, placing, order, place_of, lists}
use Rattle.order.specs.Times.{times, one}

-- who points is a stage
pub pointing-state : (p : Problem) (s t : ℕ) → points_to (node_at p s) t ≡ true → s < states p
unfolding points_to
pointing-state p s t e = go (lt-or-le s (states p))
  where
    go : (s < states p) ⊎ (states p ≤ s) → s < states p
    go (inl l) = l
    go (inr le) = never (rw (get_or-eq_default p.nodes (terminal 0) {n = s} le) at e)

pub chain-state : (p : Problem) {s t : ℕ} → Chain p s t → s < states p
chain-state p (step {s} {t} e) = pointing-state p s t e
chain-state p (onward {s} {u} {t} e c) = pointing-state p s u e

-- A chain into a placed stage goes through placed stages, each behind the one before.
chain-forward : (p : Problem) (xs : List ℕ) → Placed p xs → {s t : ℕ} → Chain p s t → 1 ≤ times t xs → (1 ≤ times s xs) ×
    (place_of xs s < place_of xs t)
chain-forward p xs h (step {s} {t} e) m = h.forward s t (pointing-state p s t e) e m
chain-forward p xs h (onward {s} {u} {t} e c) m =
    let r = chain-forward p xs h c m in let q = h.forward s u (pointing-state p s u e) e r.0 in
    (q.0, omega (arith, q.1, r.1))

-- no stage on a circle is placed
pub circle-unplaced : (p : Problem) (xs : List ℕ) → Placed p xs → (s : ℕ) → Chain p s s → 1 ≤ times s xs → ⊥
circle-unplaced p xs h s c m = omega (arith, chain-forward p xs h c m)

pub full-no-circle : (p : Problem) → length (order p) ≡ states p → Circle p → ⊥
full-no-circle p full c = circle-unplaced p (order p) (order-placed p) c.0 c.2 (all_placed p full c.0 c.1)

-- Where placing ends: all are placed, or none of the rest is free.
every-witness : (n : ℕ) (f : ℕ → Bool) → every n f ≡ false → (i : ℕ) × (i < n) × (f i ≡ false)
unfolding every also
every-witness zero f h = clash refl h
every-witness (suc n) f h = go (every n f) refl h (every-witness n f)
  where
    go : (b : Bool) → every n f ≡ b → also b (λ _. f n) ≡ false → (every n f ≡ false → (i : ℕ) × (i < n) × (f i ≡ false)) → (i : ℕ) ×
        (i < suc n) × (f i ≡ false)
    go true e g ih = (n, omega arith, g)
    go false e g ih = let r = ih e in (r.0, omega (arith, r.1), r.2)

pub placing-ends : (p : Problem) (k : ℕ) (xs : List ℕ) → states p ≤ length xs + k → (states p ≤ length (placing p k xs)) ⊎
    (states p ≤ next p (placing p k xs))
unfolding placing
placing-ends p zero xs h = inl (omega arith)
placing-ends p (suc k) xs h = go (ltb (next p xs) (states p)) refl
    (placing-ends p k (xs ++ (next p xs ∷ [])) (omega (arith, length-append xs (next p xs ∷ []))))
  where
    go : (b : Bool) → ltb (next p xs) (states p) ≡ b → (states p ≤ length (placing p k (xs ++ (next p xs ∷ [])))) ⊎
        (states p ≤ next p (placing p k (xs ++ (next p xs ∷ [])))) →
        (states p ≤ length (fork b (λ _. placing p k (xs ++ (next p xs ∷ []))) (λ _. xs))) ⊎
        (states p ≤ next p (fork b (λ _. placing p k (xs ++ (next p xs ∷ []))) (λ _. xs)))
    go true e ih = ih
    go false e ih = inr (ltb-false _ _ e)

-- a stage below n, not listed
abbrev Left : ℕ → List ℕ → ℕ → Type 0
Left n xs t = (t < n) × (times t xs ≡ 0)

-- where nothing is free, somebody unplaced points to each unplaced stage
pointed : (p : Problem) (xs : List ℕ) → states p ≤ next p xs → (t : ℕ) → Left (states p) xs t → (s : ℕ) × Left (states p) xs s ×
    (points_to (node_at p s) t ≡ true)
unfolding free also leaves
pointed p xs stuck t l = go (among t xs) refl (every (states p) (leaves p xs t)) refl
    (lowest-first (states p) 0 (free p xs) t (omega arith) (omega (arith, l.0)) (omega (arith, l.0)))
  where
    who : (s : ℕ) → s < states p → (b : Bool) → among s xs ≡ b → fork b (λ _. true) (λ _. not (points_to (node_at p s) t)) ≡ false → (s : ℕ)
        × Left (states p) xs s × (points_to (node_at p s) t ≡ true)
    who s ls true a h = clash refl h
    who s ls false a h = (s, (ls, not-among s xs a), not-false _ h)

    go : (a : Bool) → among t xs ≡ a → (b : Bool) → every (states p) (leaves p xs t) ≡ b → also (not a) (λ _. b) ≡ false → (s : ℕ) × Left
        (states p) xs s × (points_to (node_at p s) t ≡ true)
    go true ea b eb h = absurd (omega (arith, among-times t xs ea, l.1))
    go false ea true eb h = clash refl h
    go false ea false eb h = let w = every-witness (states p) (leaves p xs t) eb in who w.0 w.1 (among w.0 xs) refl w.2

-- Walking back: n + 1 unplaced stages, each pointing to the next, are not all different.
abbrev Linked : Problem → List ℕ → Type 0
Linked p [] = Unit {0}
Linked p (y ∷ []) = Unit {0}
Linked p (y ∷ (z ∷ more)) = (points_to (node_at p y) z ≡ true) × Linked p (z ∷ more)

tail-linked : (p : Problem) (y : ℕ) (ys : List ℕ) → Linked p (y ∷ ys) → Linked p ys
tail-linked p y [] h = tt
tail-linked p y (z ∷ more) h = h.1

chain-to : (p : Problem) (y : ℕ) (ys : List ℕ) → Linked p (y ∷ ys) → (t : ℕ) → 1 ≤ times t ys → Chain p y t
unfolding times one
chain-to p y [] h t m = absurd (omega arith)
chain-to p y (z ∷ more) h t m = go (eqb t z) refl m (chain-to p z more h.1 t)
  where
    go : (b : Bool) → eqb t z ≡ b → 1 ≤ one b + times t more → (1 ≤ times t more → Chain p z t) → Chain p y t
    go true e m ih = step {s = y} {t = t} (rw (eqb-true t z e) h.0)
    go false e m ih = onward h.0 (ih (omega arith))

repeats : (p : Problem) (ys : List ℕ) → Linked p ys → ((s : ℕ) × Chain p s s) ⊎ ((t : ℕ) → times t ys ≤ 1)
unfolding times one
repeats p [] h = inr (λ t. omega arith)
repeats p (y ∷ ys) h = go (among y ys) refl (repeats p ys (tail-linked p y ys h))
  where
    by : (once : (t : ℕ) → times t ys ≤ 1) → times y ys ≡ 0 → (t : ℕ) → (b : Bool) → eqb t y ≡ b → one b + times t ys ≤ 1
    by once z t true e = rw (eqb-true t y e) (omega arith)
    by once z t false e = omega (arith, once t)

    go : (b : Bool) → among y ys ≡ b → ((s : ℕ) × Chain p s s) ⊎ ((t : ℕ) → times t ys ≤ 1) → ((s : ℕ) × Chain p s s) ⊎
        ((t : ℕ) → one (eqb t y) + times t ys ≤ 1)
    go true e ih = inl (y, chain-to p y ys h y (among-times y ys e))
    go false e (inl c) = inl c
    go false e (inr once) = inr (λ t. by once (not-among y ys e) t (eqb t y) refl)

-- a walk of k + 1 stages that ends at an unplaced stage
record Walk (p : Problem) (xs : List ℕ) (k : ℕ) : Type 0 where
  first : ℕ
  rest : List ℕ
  left : Left (states p) xs first
  linked : Linked p (first ∷ rest)
  long : length rest ≡ k
  below : (s : ℕ) → s < suc k → at (first ∷ rest) s < states p

walk : (p : Problem) (xs : List ℕ) → states p ≤ next p xs → (t : ℕ) → Left (states p) xs t → (k : ℕ) → Walk p xs k
walk p xs stuck t l zero = record { first = t; rest = []; left = l; linked = tt; long = refl; below = one_only }
  where
    one_only : (s : ℕ) → s < 1 → at (t ∷ []) s < states p
    one_only zero h = l.0
    one_only (suc s) h = absurd (omega arith)
walk p xs stuck t l (suc k) = go (walk p xs stuck t l k)
  where
    go : Walk p xs k → Walk p xs (suc k)
    go w =
        let r = pointed p xs stuck w.first w.left in
        record {
          first = r.0;
          rest = w.first ∷ w.rest;
          left = r.1;
          linked = (r.2, w.linked);
          long = ap suc w.long;
          below = under
              r;
        }
      where
        under : (r : (s : ℕ) × Left (states p) xs s × (points_to (node_at p s) w.first ≡ true)) → (s : ℕ) → s < suc (suc k) → at
            (r.0 ∷ w.first ∷ w.rest) s < states p
        under r zero h = r.1.0
        under r (suc s) h = w.below s (omega arith)

-- stuck with a stage left: a circle
pub stuck-circle : (p : Problem) (xs : List ℕ) → states p ≤ next p xs → length xs < states p → Circle p
stuck-circle p xs stuck short = go (every (states p) (λ t. among t xs)) refl
  where
    found : Walk p xs (states p) → Circle p
    found w = by (repeats p (w.first ∷ w.rest) w.linked)
      where
        by : ((s : ℕ) × Chain p s s) ⊎ ((t : ℕ) → times t (w.first ∷ w.rest) ≤ 1) → Circle p
        by (inl c) = (c.0, chain-state p c.1, c.1)
        by (inr once) = absurd
            (some-twice (states p) (w.first ∷ w.rest) (omega (arith, w.long)) (λ s l. w.below s (omega (arith, w.long))) once)

    go : (b : Bool) → every (states p) (λ t. among t xs) ≡ b → Circle p
    go true e = absurd (too_few (states p) xs short (unfold lists in e))
    go false e = let r = every-witness (states p) (λ t. among t xs) e in found
        (walk p xs stuck r.0 (r.1, not-among r.0 xs r.2) (states p))

-- all stages are placed, or findings lead in a circle
pub full-or-circle : (p : Problem) → (length (order p) ≡ states p) ⊎ Circle p
unfolding order
full-or-circle p = go (lt-or-le (length (order p)) (states p)) (placing-ends p (states p) [] (omega arith))
  where
    go : (length (order p) < states p) ⊎ (states p ≤ length (order p)) → (states p ≤ length (order p)) ⊎ (states p ≤ next p (order p)) →
        (length (order p) ≡ states p) ⊎ Circle p
    go (inr h) e = inl (omega (arith, order-most p))
    go (inl h) (inl e) = absurd (omega arith)
    go (inl h) (inr e) = inr (stuck-circle p (order p) e h)

pub full-iff : (p : Problem) → (length (order p) ≡ states p) ↔ (Circle p → ⊥)
full-iff p = (full-no-circle p, λ none. go none (full-or-circle p))
  where
    go : (Circle p → ⊥) → (length (order p) ≡ states p) ⊎ Circle p → length (order p) ≡ states p
    go none (inl e) = e
    go none (inr c) = absurd (none c)
