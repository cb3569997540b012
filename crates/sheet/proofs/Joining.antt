-- Pricing as loops do it: with what has been joined so far, the dearest so far, or the least so far, in hand.
use Prim.Native.Nat.{ℕ, zero, suc, ◌+◌, ◌*◌, ◌<◌, ◌≤◌, min, max}
use mathlib.Core.Path.{◌≡◌, refl, ◌∙◌, sym, ap}
use mathlib.Core.Bool.{Bool, true, false}
use mathlib.Core.List.{List, [], ◌∷◌}
use native.Mathlib.Omega.{arith}
use native.Mathlib.Numerals.{add-one}
use borrow.Author.Tests.{ltb-true, ltb-false}
use lib.Dec.{ltb}
use lib.ListN.{length, get_or, drop}
use lib.Seq.{drop-cons, drop-length}
use Rattle.model.specs.Tests.{fork}
use Rattle.model.specs.Problem.{Kind, worst, whole, Action, action, action_at}
use Rattle.model.specs.Read.{kind_of, problem_of}
use Rattle.model.specs.Limits.{ceiling, no_plan}
use Rattle.model.specs.Cost.{cut}
use Rattle.model.specs.QValue.{join, q, dearer_of, dearest_from, dearest, least_from}
use Rattle.model.specs.Earlier.{joined_values}
use Rattle.layout.proofs.Prices.{price-none, price-number}
use Rattle.sheet.specs.Sheet.{of_kind, written_price}

join-assoc : (k : Kind) (a b c : ℕ) → join k a (join k b c) ≡ join k (join k a b) c
unfolding join
join-assoc worst a b c = omega arith
join-assoc whole a b c = omega arith

join-zero : (k : Kind) (a : ℕ) → (join k a 0 ≡ a) × (join k 0 a ≡ a)
unfolding join
join-zero worst a = omega arith
join-zero whole a = omega arith

-- a join of each kind
join-most : (x y : ℕ) → max x y ≡ join worst x y
unfolding join
join-most x y = refl

join-total : (x y : ℕ) → x + y ≡ join whole x y
unfolding join
join-total x y = refl

pub of-kind-fits : (k : Kind) (x y : ℕ) → x ≤ y → (x ≤ of_kind k x y) × (of_kind k x y ≤ y)
unfolding of_kind
of-kind-fits worst x y le = (omega arith, omega arith)
of-kind-fits whole x y le = (omega arith, omega arith)

-- the largest and the sum, both at hand
joined_of : (k : Kind) (v : ℕ → ℕ) (ts : List ℕ) →
    joined_values k v ts ≡ of_kind k (joined_values worst v ts) (joined_values whole v ts)
unfolding of_kind
joined_of worst v ts = refl
joined_of whole v ts = refl

-- of `best`, whose value counts as `most`, and the states behind it, the first whose value is largest: as the loop finds it
unfoldable pub dearest_with : (ℕ → ℕ) → ℕ → ℕ → List ℕ → ℕ
dearest_with v best most [] = best
dearest_with v best most (u ∷ us) = dearest_with v (dearer_of most (v u) best u) (max most (v u)) us

module _ (v : ℕ → ℕ) where
  -- it is the definition's where the value is its own
  with-from : (t : ℕ) (us : List ℕ) → dearest_with v t (v t) us ≡ dearest_from v t us
  unfolding dearest_with dearest_from
  with-from t [] = refl
  with-from t (u ∷ us) =
      let next : ℕ = dearer_of (v t) (v u) t u in
      ap (λ (m : ℕ). dearest_with v next m us) (larger (ltb (v t) (v u)) refl) ∙ with-from next us
    where
      larger : (b : Bool) → ltb (v t) (v u) ≡ b → max (v t) (v u) ≡ v (fork b (λ _. u) (λ _. t))
      larger true e = omega (arith, ltb-true (v t) (v u) e)
      larger false e = omega (arith, ltb-false (v t) (v u) e)

  -- and where the first is counted as 0 until its turn
  with_first : (t : ℕ) (ts : List ℕ) → dearest v (t ∷ ts) ≡ dearest_with v t 0 (t ∷ ts)
  unfolding dearest_with dearest
  with_first t ts = sym (same (ltb 0 (v t)) ∙ with-from t ts)
    where
      own : max 0 (v t) ≡ v t
      own = omega arith

      same : (b : Bool) → dearest_with v (fork b (λ _. t) (λ _. t)) (max 0 (v t)) ts ≡ dearest_with v t (v t) ts
      same true = rw own
      same false = rw own

-- the loop begins with the first
dearest-begin : (v : ℕ → ℕ) (ts : List ℕ) → 0 < length ts → dearest v ts ≡ dearest_with v (get_or ts 0 0) 0 ts
dearest-begin v [] some = absurd (omega arith)
dearest-begin v (t ∷ us) some = with_first v t us

-- `total` and `most` are the sum and the largest of the values of those successors that have come, `rest` are those that are left, and
-- `best` is the first of the largest value; before any has come, the first successor
pub record Sums (v : ℕ → ℕ) (ts : List ℕ) (total most best : ℕ) (rest : List ℕ) : Type 0 where
  pub summed : total + 4294967296 * length rest ≤ 4294967296 * length ts
  pub within : most ≤ total
  pub total_is : joined_values whole v ts ≡ join whole total (joined_values whole v rest)
  pub most_is : joined_values worst v ts ≡ join worst most (joined_values worst v rest)
  pub best_is : dearest v ts ≡ dearest_with v best most rest

module _ {v : ℕ → ℕ} {ts : List ℕ} where
  -- none of them yet: the first stands for the dearest
  pub sums_none : {first : ℕ} → 0 < length ts → first ≡ get_or ts 0 0 → Sums v ts 0 0 first ts
  sums_none some e = record {
    summed = omega arith;
    within = omega arith;
    total_is = sym (join-zero whole (joined_values whole v ts)).1;
    most_is = sym (join-zero worst (joined_values worst v ts)).1;
    best_is = rw e (dearest-begin v ts some);
  }

  -- the next one comes, whose value is x
  pub sums-more : {total most best t x top next : ℕ} {us : List ℕ} → Sums v ts total most best (t ∷ us) → x ≡ v t → x < 4294967296 →
      top ≡ max most x → next ≡ dearer_of most x best t → Sums v ts (total + x) top next us
  unfolding joined_values dearest_with
  sums-more {total} {most} {us} h e small larger next-is = record {
    summed = omega (arith, h.summed);
    within = omega (arith, h.within, larger);
    total_is = rw (join-total, e) (h.total_is ∙ join-assoc whole total _ (joined_values whole v us));
    most_is = rw (larger, join-most, e) (h.most_is ∙ join-assoc worst most _ (joined_values worst v us));
    best_is = rw (next-is, larger, e) h.best_is;
  }

  -- none is left
  module _ {total most best : ℕ} (h : Sums v ts total most best []) where
    sums-top : joined_values worst v ts ≡ most
    unfolding joined_values
    sums-top = h.most_is ∙ (join-zero worst most).0

    sums-all : (k : Kind) → joined_values k v ts ≡ of_kind k most total
    unfolding joined_values
    sums-all k = joined_of k v ts ∙ rw (h.total_is ∙ (join-zero whole total).0, sums-top) refl

    -- the price of an action with these successors, once all have been gone through
    pub sums-price : (k : Kind) (a : Action) → a.successors ≡ ts → q k v a ≡ written_price most (a.cost + of_kind k most total)
    sums-price k a is = go (ltb ceiling most) refl
      where
        top : joined_values worst v a.successors ≡ most
        top = ap (joined_values worst v) is ∙ sums-top

        all : joined_values k v a.successors ≡ of_kind k most total
        all = ap (joined_values k v) is ∙ sums-all k

        go : (b : Bool) → ltb ceiling most ≡ b → q k v a ≡ fork b (λ _. no_plan) (λ _. cut (a.cost + of_kind k most total))
        go true above = price-none k v a (rw top (ltb-true ceiling most above))
        go false low = price-number k v a (rw top (ltb-false ceiling most low)) ∙ ap (λ (x : ℕ). cut (a.cost + x)) all

    pub sums-dearest : best ≡ dearest v ts
    unfolding dearest_with
    sums-dearest = sym h.best_is

module _ (f : Action → ℕ) (acts : List Action) where
  -- x is the least before number i
  abbrev pub least_so_far : ℕ → ℕ → ℕ
  least_so_far i x = least_from min x f (drop i acts)

  pub least-turn : (x : ℕ) {i y : ℕ} → i < length acts → y ≡ min x (f (action_at acts i)) →
      least_so_far i x ≡ least_so_far (i + 1) y
  unfolding least_from
  least-turn x {i} lt e = rw (add-one, drop-cons acts i (action 0 []) lt, e)

  pub least-end : (x : ℕ) → least_so_far (length acts) x ≡ x
  unfolding least_from
  least-end x = rw (drop-length acts)
