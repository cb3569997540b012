-- The counts that the code keeps: a state may be placed exactly when its entry is 0, and placing one lowers the entries of its successors.
use Prim.Native.Nat.{ℕ, zero, suc, ◌+◌, ◌-◌, ◌<◌, ◌≤◌}
use mathlib.Core.Path.{◌≡◌, refl, sym, ap, ◌∙◌}
use mathlib.Core.Bool.{Bool, true, false, not}
use mathlib.Core.Logic.{◌⊎◌, inl, inr, ◌≢◌}
use mathlib.Core.List.{List, [], ◌∷◌, ◌++◌}
use native.Mathlib.Omega.{arith}
use borrow.Author.Tests.{eqb-true, eq-eqb, ne_eqb}
use lib.Dec.{eqb}
use lib.ListN.{length, set, length-set}
use lib.Seq.{get_or-set_same, get_or-set_other}
use Rattle.model.proofs.TestLaws.{every_true, true-every, never}
use Rattle.model.specs.Format.{actions_of}
use Rattle.model.specs.Optimal.{sum_below}
use Rattle.model.specs.Problem.{Action, Node, terminal, decision, Problem, states, node_at}
use Rattle.model.specs.Tests.{fork, also, every}
use Rattle.theory.proofs.Basics.{lt-or-le, same_or_not, clash}
use Rattle.order.proofs.Consistent.{same_test}
use Rattle.order.proofs.Counting.{one_same, one-other, times-append, times-own, times-other, among-times, not-among, times-among}
use Rattle.order.proofs.Counting.{place-append, place-last}
use Rattle.order.proofs.Placing.{Placed, free-unplaced, free-pointed}
use Rattle.order.specs.Moved.{at}
use Rattle.order.specs.Order.{among, some_leads, points_to, leaves, free, place_of}
use Rattle.order.specs.Times.{one, times}
use Rattle.rearrange.specs.Waits.{found, found_at, found_below, pointers, waiting, counted, lessened}

-- who has t among its findings points to it
times-leads : (acts : List Action) (t : ℕ) → 1 ≤ times t (found acts) → some_leads acts t ≡ true
unfolding found some_leads times
times-leads [] t h = absurd (omega arith)
times-leads (a ∷ more) t h = go (among t a.successors) refl (times-leads more t)
  where
    go : (b : Bool) → among t a.successors ≡ b → (1 ≤ times t (found more) → some_leads more t ≡ true) → fork b (λ _. true)
        (λ _. some_leads more t) ≡ true
    go true e ih = refl
    go false e ih = ih (omega (arith, h, times-append t a.successors (found more), not-among t a.successors e))

leads-times : (acts : List Action) (t : ℕ) → some_leads acts t ≡ true → 1 ≤ times t (found acts)
unfolding found some_leads times
leads-times [] t h = never h
leads-times (a ∷ more) t h = go (among t a.successors) refl h (leads-times more t)
  where
    go : (b : Bool) → among t a.successors ≡ b → fork b (λ _. true) (λ _. some_leads more t) ≡ true →
        (some_leads more t ≡ true → 1 ≤ times t (found more)) → 1 ≤ times t (a.successors ++ found more)
    go true e h ih = omega (arith, times-append t a.successors (found more), among-times t a.successors e)
    go false e h ih = omega (arith, times-append t a.successors (found more), ih h)

pub times-points : (n : Node) (t : ℕ) → 1 ≤ times t (found (actions_of n)) → points_to n t ≡ true
unfolding actions_of points_to found times
times-points (terminal cost) t h = absurd (omega arith)
times-points (decision form acts) t h = times-leads acts t h

pub points-times : (n : Node) (t : ℕ) → points_to n t ≡ true → 1 ≤ times t (found (actions_of n))
unfolding actions_of points_to
points-times (terminal cost) t h = never h
points-times (decision form acts) t h = leads-times acts t h

-- Sums.
sum-none : (f : ℕ → ℕ) (n : ℕ) → ((s : ℕ) → s < n → f s ≡ 0) → sum_below n f ≡ 0
unfolding sum_below
sum-none f zero h = refl
sum-none f (suc n) h = omega (arith, sum-none f n (λ s l. h s (omega arith)), h n (omega arith))

sum-part : (f : ℕ → ℕ) (n s : ℕ) → s < n → f s ≤ sum_below n f
unfolding sum_below
sum-part f zero s l = absurd (omega arith)
sum-part f (suc n) s l = go (same_or_not s n) (λ g. sum-part f n s g)
  where
    go : (s ≡ n) ⊎ (s ≢ n) → (s < n → f s ≤ sum_below n f) → f s ≤ sum_below n f + f n
    go (inl e) ih = rw e (omega arith)
    go (inr e) ih = omega (arith, ih (omega arith))

sum_same : (f g : ℕ → ℕ) (n : ℕ) → ((t : ℕ) → t < n → f t ≡ g t) → sum_below n f ≡ sum_below n g
unfolding sum_below
sum_same f g zero h = refl
sum_same f g (suc n) h = omega (arith, sum_same f g n (λ t l. h t (omega arith)), h n (omega arith))

-- a sum of which one part goes
sum_less : (f g : ℕ → ℕ) (n s : ℕ) → s < n → g s ≡ 0 → ((u : ℕ) → u < n → u ≢ s → g u ≡ f u) → sum_below n g + f s ≡ sum_below n f
unfolding sum_below
sum_less f g zero s l z h = absurd (omega arith)
sum_less f g (suc n) s l z h = go (same_or_not s n) (λ k. sum_less f g n s k z (λ u lu. h u (omega arith)))
  where
    go : (s ≡ n) ⊎ (s ≢ n) → (s < n → sum_below n g + f s ≡ sum_below n f) → sum_below n g + g n + f s ≡ sum_below n f + f n
    go (inl e) ih =
        let gz : g n ≡ 0 = rw (← e) z in let fs : f s ≡ f n = ap f e in
        omega (arith, sum_same g f n (λ u lu. h u (omega arith) (omega arith)))
    go (inr e) ih = omega (arith, ih (omega arith), h n (omega arith) (λ x. e (sym x)))

-- A stage may be placed exactly when its entry is 0.
module _ (p : Problem) (xs : List ℕ) (t : ℕ) where
  part : ℕ → ℕ
  part s = fork (among s xs) (λ _. 0) (λ _. times t (found_at p s))

  leaves-part : (s : ℕ) → leaves p xs t s ≡ true → part s ≡ 0
  unfolding leaves part
  leaves-part s = go (among s xs)
    where
      quiet : (b : Bool) → points_to (node_at p s) t ≡ b → not b ≡ true → times t (found_at p s) ≡ 0
      quiet true e h = never h
      quiet false e h = zero_or (lt-or-le 0 (times t (found_at p s)))
        where
          zero_or : (0 < times t (found_at p s)) ⊎ (times t (found_at p s) ≤ 0) → times t (found_at p s) ≡ 0
          zero_or (inl g) = clash (times-points (node_at p s) t g) e
          zero_or (inr g) = omega arith

      go : (b : Bool) → fork b (λ _. true) (λ _. not (points_to (node_at p s) t)) ≡ true → fork b (λ _. 0) (λ _. times t (found_at p s)) ≡ 0
      go true h = refl
      go false h = quiet (points_to (node_at p s) t) refl h

  part-leaves : (s : ℕ) → part s ≡ 0 → leaves p xs t s ≡ true
  unfolding leaves part
  part-leaves s = go (among s xs)
    where
      quiet : (b : Bool) → points_to (node_at p s) t ≡ b → times t (found_at p s) ≡ 0 → not b ≡ true
      quiet true e h = absurd (omega (arith, points-times (node_at p s) t e))
      quiet false e h = refl

      go : (b : Bool) → fork b (λ _. 0) (λ _. times t (found_at p s)) ≡ 0 → fork b (λ _. true) (λ _. not (points_to (node_at p s) t)) ≡ true
      go true h = refl
      go false h = quiet (points_to (node_at p s) t) refl h

  pub free-waiting : free p xs t ≡ eqb (waiting p xs t) 0
  unfolding free waiting pointers also part
  free-waiting = go (among t xs)
    where
      go : (b : Bool) → also (not b) (λ _. every (states p) (leaves p xs t)) ≡ eqb
          (fork b (λ _. suc (place_of xs t)) (λ _. sum_below (states p) part)) 0
      go true = sym (ne_eqb (suc (place_of xs t)) 0 (omega arith))
      go false = same_test (every (states p) (leaves p xs t)) (eqb (sum_below (states p) part) 0)
          (λ h. eq-eqb _ _ (sum-none part (states p) (λ s l. leaves-part s (every_true (states p) _ h s l))))
          (λ h. true-every (states p) _
          (λ s l. part-leaves s (omega (arith, sum-part part (states p) s l, eqb-true (sum_below (states p) part) 0 h))))

among-more : (u s : ℕ) (xs : List ℕ) → u ≢ s → among u (xs ++ (s ∷ [])) ≡ among u xs
among-more u s xs n = same_test _ _
    (λ h. times-among u xs (omega (arith, among-times u (xs ++ (s ∷ [])) h, times-append u xs (s ∷ []), times-other u s n)))
    (λ h. times-among u (xs ++ (s ∷ [])) (omega (arith, among-times u xs h, times-append u xs (s ∷ []))))

among-last : (s : ℕ) (xs : List ℕ) → among s (xs ++ (s ∷ [])) ≡ true
among-last s xs = times-among s (xs ++ (s ∷ [])) (omega (arith, times-append s xs (s ∷ []), times-own s))

-- Placing s: its own entry, and those of its findings.
module _ (p : Problem) (xs : List ℕ) (s : ℕ) (l : s < states p) (fr : free p xs s ≡ true) (h : Placed p xs) where
  abbrev more : List ℕ
  more = xs ++ (s ∷ [])

  absent : among s xs ≡ false
  absent = go (among s xs) refl
    where
      go : (b : Bool) → among s xs ≡ b → b ≡ false
      go true e = absurd (omega (arith, among-times s xs e, free-unplaced p xs s fr))
      go false e = refl

  -- s does not point to itself, nor to a placed stage
  pub no-finding : (u : ℕ) → (u ≡ s) ⊎ (1 ≤ times u xs) → times u (found_at p s) ≡ 0
  no-finding u w = go (lt-or-le 0 (times u (found_at p s))) w
    where
      go : (0 < times u (found_at p s)) ⊎ (times u (found_at p s) ≤ 0) → (u ≡ s) ⊎ (1 ≤ times u xs) → times u (found_at p s) ≡ 0
      go (inr g) w = omega arith
      go (inl g) (inl e) = absurd
          (omega (arith, free-pointed p xs s fr s l (rw e at (times-points (node_at p s) u g)), free-unplaced p xs s fr))
      go (inl g) (inr m) = absurd (omega (arith, (h.forward s u l (times-points (node_at p s) u g) m).0, free-unplaced p xs s fr))

  fewer : (u : ℕ) → pointers p more u + times u (found_at p s) ≡ pointers p xs u
  unfolding pointers
  fewer u =
      let own : fork (among s xs) (λ _. 0) (λ _. times u (found_at p s)) ≡ times u (found_at p s) = rw absent in
      omega (
        arith,
        own,
        sum_less (λ r. fork (among r xs) (λ _. 0) (λ _. times u (found_at p r)))
            (λ r. fork (among r more) (λ _. 0) (λ _. times u (found_at p r))) (states p) s l
            (rw (among-last s xs)) (λ r lr n. rw (among-more r s xs n)),
      )

  pub waiting-own : (waiting p more s ≡ suc (length xs)) × (times s (found_at p s) ≡ 0)
  unfolding waiting
  waiting-own = (rw (among-last s xs) (ap suc (place-last s xs (free-unplaced p xs s fr))), no-finding s (inl refl))

  pub waiting-other : (u : ℕ) → u ≢ s → waiting p more u + times u (found_at p s) ≡ waiting p xs u
  unfolding waiting
  waiting-other u n = rw (among-more u s xs n) (go (among u xs) refl)
    where
      go : (b : Bool) → among u xs ≡ b → fork b (λ _. suc (place_of more u)) (λ _. pointers p more u) + times u (found_at p s) ≡ fork b
          (λ _. suc (place_of xs u)) (λ _. pointers p xs u)
      go true e = let m = among-times u xs e in omega (arith, no-finding u (inr m), place-append u xs (s ∷ []) m)
      go false e = fewer u

-- The lists of counts, entry by entry.
pub counted-length : (ws ts : List ℕ) → length (counted ws ts) ≡ length ws
unfolding counted
counted-length ws [] = refl
counted-length ws (t ∷ ts) = counted-length (set ws t (at ws t + 1)) ts ∙ length-set ws t (at ws t + 1)

pub lessened-length : (ws ts : List ℕ) → length (lessened ws ts) ≡ length ws
unfolding lessened
lessened-length ws [] = refl
lessened-length ws (t ∷ ts) = lessened-length (set ws t (at ws t - 1)) ts ∙ length-set ws t (at ws t - 1)

pub counted-at : (ws ts : List ℕ) (u : ℕ) → u < length ws → at (counted ws ts) u ≡ at ws u + times u ts
unfolding counted times
counted-at ws [] u l = omega arith
counted-at ws (t ∷ ts) u l = counted-at (set ws t (at ws t + 1)) ts u (rw (length-set ws t (at ws t + 1)) l) ∙ go (same_or_not u t)
  where
    go : (u ≡ t) ⊎ (u ≢ t) → at (set ws t (at ws t + 1)) u + times u ts ≡ at ws u + (one (eqb u t) + times u ts)
    go (inl e) = rw (← e, get_or-set_same ws u (at ws u + 1) 0 l) (omega (arith, one_same u))
    go (inr n) = rw (get_or-set_other ws t u (at ws t + 1) 0 n) (omega (arith, one-other u t n))

pub lessened-at : (ws ts : List ℕ) (u : ℕ) → u < length ws → at (lessened ws ts) u ≡ at ws u - times u ts
unfolding lessened times
lessened-at ws [] u l = omega arith
lessened-at ws (t ∷ ts) u l = lessened-at (set ws t (at ws t - 1)) ts u (rw (length-set ws t (at ws t - 1)) l) ∙ go (same_or_not u t)
  where
    go : (u ≡ t) ⊎ (u ≢ t) → at (set ws t (at ws t - 1)) u - times u ts ≡ at ws u - (one (eqb u t) + times u ts)
    go (inl e) = rw (← e, get_or-set_same ws u (at ws u - 1) 0 l) (omega (arith, one_same u))
    go (inr n) = rw (get_or-set_other ws t u (at ws t - 1) 0 n) (omega (arith, one-other u t n))

pub counted-append : (ws xs ys : List ℕ) → counted ws (xs ++ ys) ≡ counted (counted ws xs) ys
unfolding counted
counted-append ws [] ys = refl
counted-append ws (x ∷ xs) ys = counted-append (set ws x (at ws x + 1)) xs ys

pub lessened-append : (ws xs ys : List ℕ) → lessened ws (xs ++ ys) ≡ lessened (lessened ws xs) ys
unfolding lessened
lessened-append ws [] ys = refl
lessened-append ws (x ∷ xs) ys = lessened-append (set ws x (at ws x - 1)) xs ys

-- at the outset: what all findings come to
below-times : (p : Problem) (k t : ℕ) → times t (found_below p k) ≡ sum_below k (λ s. times t (found_at p s))
unfolding found_below sum_below times
below-times p zero t = refl
below-times p (suc k) t = times-append t (found_below p k) (found_at p k) ∙ omega (arith, below-times p k t)

pub outset : (p : Problem) (t : ℕ) → waiting p [] t ≡ times t (found_below p (states p))
unfolding waiting pointers among
outset p t = sym (below-times p (states p) t)
