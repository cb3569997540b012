-- Facts of q-values, for both kinds from one argument, and of the least of some prices or costs.
use Prim.Native.Nat.{ℕ, zero, suc, ◌+◌, ◌<◌, ◌≤◌, min}
use mathlib.Core.Path.{◌≡◌, refl, ap, ◌∙◌}
use mathlib.Core.Logic.{◌⊎◌, inl, inr}
use mathlib.Core.Option.{none, some}
use mathlib.Core.List.{List, [], ◌∷◌}
use native.Mathlib.Omega.{arith}
use lib.ListN.{length}
use Rattle.model.specs.Problem.{Kind, worst, whole, Action, action_at, ◌∈◌, here, there}
use Rattle.model.specs.Limits.{no_plan}
use Rattle.model.specs.Cost.{Cost, amount, cost_of, both, lesser, ◌⊑◌}
use Rattle.model.specs.QValue.{join, joined, q, q_full, least_from, least, least_cost}
use Rattle.theory.proofs.Basics.{lt-or-le}
use Rattle.theory.proofs.CostLaws.{at-most-same, at-most-then, amount-small, amount-mono, cost-mono, amount-back, Joins, adds}
use Rattle.theory.proofs.CostLaws.{both-mono, both-parts, both-amount, both_some, lesser-left, lesser-right, lesser-either}
use Rattle.theory.proofs.CostLaws.{lesser-amount}

-- the one place where the two kinds are told apart
joins : (k : Kind) → Joins (join k)
unfolding join
joins worst = record { mono = λ a b c d h g. omega arith; parts = λ a b. omega arith; cuts = λ a b. omega arith }
joins whole = record { mono = λ a b c d h g. omega arith; parts = λ a b. omega arith; cuts = λ a b. omega arith }

-- what holds of v and v' at the successors holds of the q-values
module _ (k : Kind) where
  joined-mono : (v v' : ℕ → Cost) (ts : List ℕ) → ((t : ℕ) → t ∈ ts → v t ⊑ v' t) →
      joined k v ts ⊑ joined k v' ts
  unfolding joined
  joined-mono v v' [] h = omega arith
  joined-mono v v' (t ∷ ts) h =
      both-mono (joins k) (v t) (joined k v ts) (v' t) (joined k v' ts) (h t here) (joined-mono v v' ts (λ u m. h u (there m)))

  joined_same : (v v' : ℕ → Cost) (ts : List ℕ) → ((t : ℕ) → t ∈ ts → v t ≡ v' t) →
      joined k v ts ≡ joined k v' ts
  unfolding joined
  joined_same v v' [] h = refl
  joined_same v v' (t ∷ ts) h = cc (h t here, joined_same v v' ts (λ u m. h u (there m)))

  joined-amount : (v v' : ℕ → Cost) (ts : List ℕ) → ((t : ℕ) → t ∈ ts → amount (v t) ≡ amount (v' t)) →
      amount (joined k v ts) ≡ amount (joined k v' ts)
  unfolding joined
  joined-amount v v' [] h = refl
  joined-amount v v' (t ∷ ts) h =
      both-amount (joins k) (v t) (joined k v ts) (v' t) (joined k v' ts) (h t here) (joined-amount v v' ts (λ u m. h u (there m)))

  -- each is at most all, and some number where they come to one
  pub joined-below : (v : ℕ → Cost) {t : ℕ} {ts : List ℕ} → t ∈ ts → v t ⊑ joined k v ts
  unfolding joined
  joined-below v (here {t} {ts}) = (both-parts (joins k) (v t) (joined k v ts)).0
  joined-below v (there {t} {u} {ts} m) =
      at-most-then (v t) (joined k v ts) (joined k v (u ∷ ts)) (joined-below v m) (both-parts (joins k) (v u) (joined k v ts)).1

  joined-part : (v : ℕ → Cost) {t : ℕ} {ts : List ℕ} → t ∈ ts → (z : ℕ) → joined k v ts ≡ some z →
      (x : ℕ) × (v t ≡ some x)
  unfolding joined
  joined-part v (here {t} {ts}) z e = let r = both_some (join k) (v t) (joined k v ts) z e in (r.0, r.2)
  joined-part v (there {t} {u} {ts} m) z e = let r = both_some (join k) (v u) (joined k v ts) z e in joined-part v m r.1 r.3

  joined-some : (v : ℕ → Cost) (ts : List ℕ) → ((t : ℕ) → t ∈ ts → (x : ℕ) × (v t ≡ some x)) →
      (z : ℕ) × (joined k v ts ≡ some z)
  unfolding joined both
  joined-some v [] h = (0, refl)
  joined-some v (t ∷ ts) h =
      let r = h t here in let others = joined-some v ts (λ u m. h u (there m)) in (join k r.0 others.0, rw (r.1, others.1))

  -- of the costs of the successors only
  pub q_full-mono : (v v' : ℕ → Cost) (a : Action) → ((t : ℕ) → t ∈ a.successors → v t ⊑ v' t) →
      q_full k v a ⊑ q_full k v' a
  q_full-mono v v' a h =
      let cost : Cost = some a.cost in
      both-mono adds cost (joined k v a.successors) cost (joined k v' a.successors) (at-most-same cost)
      (joined-mono v v' a.successors h)

  pub q_full-same : (v v' : ℕ → Cost) (a : Action) → ((t : ℕ) → t ∈ a.successors → v t ≡ v' t) →
      q_full k v a ≡ q_full k v' a
  q_full-same v v' a h = ap (both ◌+◌ (some a.cost)) (joined_same v v' a.successors h)

  -- some number from some numbers only, and always from them
  pub q_full-part : (v : ℕ → Cost) (a : Action) (z : ℕ) → q_full k v a ≡ some z → (t : ℕ) → t ∈ a.successors →
      (x : ℕ) × (v t ≡ some x)
  q_full-part v a z e t m = let r = both_some ◌+◌ (some a.cost) (joined k v a.successors) z e in joined-part v m r.1 r.3

  pub q_full-some : (v : ℕ → Cost) (a : Action) → ((t : ℕ) → t ∈ a.successors → (x : ℕ) × (v t ≡ some x)) →
      (z : ℕ) × (q_full k v a ≡ some z)
  unfolding both
  q_full-some v a h = let r = joined-some v a.successors h in (a.cost + r.0, rw r.1)

  pub q-small : (v : ℕ → ℕ) (a : Action) → q k v a ≤ no_plan
  q-small v a = amount-small (q_full k (λ t. cost_of (v t)) a)

  pub q-mono : (v v' : ℕ → ℕ) (a : Action) → ((t : ℕ) → t ∈ a.successors → v t ≤ v' t) → q k v a ≤ q k v' a
  q-mono v v' a h = amount-mono _ _ (q_full-mono (λ t. cost_of (v t)) (λ t. cost_of (v' t)) a (λ t m. cost-mono (v t) (v' t) (h t m)))

  pub q-same : (v v' : ℕ → ℕ) (a : Action) → ((t : ℕ) → t ∈ a.successors → v t ≡ v' t) → q k v a ≡ q k v' a
  q-same v v' a h = ap amount (q_full-same (λ t. cost_of (v t)) (λ t. cost_of (v' t)) a (λ t m. ap cost_of (h t m)))

  -- the price by the amounts of costs is the amount of the price by the costs
  pub q-amount : (v : ℕ → Cost) (a : Action) → q k (λ t. amount (v t)) a ≡ amount (q_full k v a)
  q-amount v a =
      both-amount adds (some a.cost) _ (some a.cost) _ refl
      (joined-amount (λ t. cost_of (amount (v t))) v a.successors (λ t m. amount-back (v t)))

-- What picks the lesser of two, by an order.
record Picks {A : Type 0} (below : A → A → Type 0) (pick : A → A → A) : Type 0 where
  same : (x : A) → below x x
  next : (x y z : A) → below x y → below y z → below x z
  left : (x y : A) → below (pick x y) x
  right : (x y : A) → below (pick x y) y
  either : (x y : A) → (pick x y ≡ x) ⊎ (pick x y ≡ y)

picks-min : Picks ◌≤◌ min
picks-min = record {
  same = λ x. omega arith;
  next = λ x y z h g. omega arith;
  left = λ x y. omega arith;
  right = λ x y. omega arith;
  either = λ x y. go x y (lt-or-le x y);
}
  where
    go : (x y : ℕ) → (x < y) ⊎ (y ≤ x) → (min x y ≡ x) ⊎ (min x y ≡ y)
    go x y (inl h) = inl (omega arith)
    go x y (inr h) = inr (omega arith)

picks-lesser : Picks ◌⊑◌ lesser
picks-lesser = record { same = at-most-same; next = at-most-then; left = lesser-left; right = lesser-right; either = lesser-either }

abbrev pub Attains : {A : Type 0} → A → (Action → A) → List Action → Type 0
Attains y f acts = (i : ℕ) × (i < length acts) × (y ≡ f (action_at acts i))

-- the least is below where it starts and below each member, and is one of them or where it starts
module _ {A : Type 0} {below : A → A → Type 0} {pick : A → A → A} (picks : Picks below pick) (f : Action → A) where
  from_start : (x : A) (acts : List Action) → below (least_from pick x f acts) x
  unfolding least_from
  from_start x [] = picks.same x
  from_start x (a ∷ more) = picks.next _ _ _ (from_start (pick x (f a)) more) (picks.left x (f a))

  from_below : (x : A) (acts : List Action) (i : ℕ) → i < length acts → below (least_from pick x f acts) (f (action_at acts i))
  unfolding least_from
  from_below x [] i h = absurd (omega arith)
  from_below x (a ∷ more) zero h = picks.next _ _ _ (from_start (pick x (f a)) more) (picks.right x (f a))
  from_below x (a ∷ more) (suc i) h = from_below (pick x (f a)) more i (omega arith)

  from-attains : (x : A) (acts : List Action) → (least_from pick x f acts ≡ x) ⊎ Attains (least_from pick x f acts) f acts
  unfolding least_from
  from-attains x [] = inl refl
  from-attains x (a ∷ more) = go (from-attains (pick x (f a)) more) (picks.either x (f a))
    where
      go : (least_from pick (pick x (f a)) f more ≡ pick x (f a)) ⊎ Attains (least_from pick (pick x (f a)) f more) f more →
          (pick x (f a) ≡ x) ⊎ (pick x (f a) ≡ f a) →
          (least_from pick (pick x (f a)) f more ≡ x) ⊎ Attains (least_from pick (pick x (f a)) f more) f (a ∷ more)
      go (inl e) (inl h) = inl (e ∙ h)
      go (inl e) (inr h) = inr (0, omega arith, e ∙ h)
      go (inr r) h = inr (suc r.0, omega (arith, r.1), r.2)

  -- so whatever is below the start and all members is below the least
  from-above : (x y : A) (acts : List Action) → below y x → ((i : ℕ) → i < length acts → below y (f (action_at acts i))) →
      below y (least_from pick x f acts)
  from-above x y acts start h = go (from-attains x acts)
    where
      go : (least_from pick x f acts ≡ x) ⊎ Attains (least_from pick x f acts) f acts → below y (least_from pick x f acts)
      go (inl e) = rw e start
      go (inr r) = rw r.2 (h r.0 r.1)

from-same : {A : Type 0} (pick : A → A → A) (x : A) (f g : Action → A) (acts : List Action) →
    ((i : ℕ) → i < length acts → f (action_at acts i) ≡ g (action_at acts i)) → least_from pick x f acts ≡ least_from pick x g acts
unfolding least_from
from-same pick x f g [] h = refl
from-same pick x f g (a ∷ more) h = rw (h 0 (omega arith)) (from-same pick (pick x (g a)) f g more (λ i l. h (suc i) (omega arith)))

-- Of prices.
pub least-below : (f : Action → ℕ) (acts : List Action) (i : ℕ) → i < length acts → least f acts ≤ f (action_at acts i)
least-below f acts = from_below picks-min f no_plan acts

pub least-small : (f : Action → ℕ) (acts : List Action) → least f acts ≤ no_plan
least-small f acts = from_start picks-min f no_plan acts

pub least_above : (f : Action → ℕ) (acts : List Action) (x : ℕ) → x ≤ no_plan →
    ((i : ℕ) → i < length acts → x ≤ f (action_at acts i)) → x ≤ least f acts
least_above f acts x = from-above picks-min f no_plan x acts

pub least-same : (f g : Action → ℕ) (acts : List Action) →
    ((i : ℕ) → i < length acts → f (action_at acts i) ≡ g (action_at acts i)) → least f acts ≡ least g acts
least-same = from-same min no_plan

-- Of costs.
pub cost-below : (f : Action → Cost) (acts : List Action) (i : ℕ) → i < length acts → least_cost f acts ⊑ f (action_at acts i)
cost-below f acts = from_below picks-lesser f none acts

pub cost-attains : (f : Action → Cost) (acts : List Action) → (least_cost f acts ≡ none) ⊎ Attains (least_cost f acts) f acts
cost-attains f acts = from-attains picks-lesser f none acts

pub cost-same : (f g : Action → Cost) (acts : List Action) →
    ((i : ℕ) → i < length acts → f (action_at acts i) ≡ g (action_at acts i)) → least_cost f acts ≡ least_cost g acts
cost-same = from-same lesser none

-- the amount of the least cost is the least amount
from-amount : (c : Cost) (f : Action → Cost) (acts : List Action) →
    amount (least_from lesser c f acts) ≡ least_from min (amount c) (λ a. amount (f a)) acts
unfolding least_from
from-amount c f [] = refl
from-amount c f (a ∷ more) =
    from-amount (lesser c (f a)) f more ∙ ap (λ (x : ℕ). least_from min x (λ b. amount (f b)) more) (lesser-amount c (f a))

pub cost-amount : (f : Action → Cost) (acts : List Action) → amount (least_cost f acts) ≡ least (λ a. amount (f a)) acts
unfolding amount
cost-amount f acts = from-amount none f acts
