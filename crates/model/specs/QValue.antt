-- The price of a check, for both kinds and by values, plans and least costs from one definition, its dearest finding, and the least price.
use Rattle.std.specs.Prelude.{ℕ, ◌+◌, ◌≤◌, min, max, ◌≡◌, List, [], ◌∷◌, ltb}
use Rattle.std.proofs.Math.Option.{none, some}
use Rattle.model.specs.Tests.{fork}
use Rattle.model.specs.Limits.{no_plan}
use Rattle.model.specs.Problem.{Kind, worst, whole, Action, ◌∈◌}
use Rattle.model.specs.Cost.{Cost, amount, cost_of, both, lesser}

-- S2.3: the larger on a worst sheet, the sum on a whole one
unfoldable pub join : Kind → ℕ → ℕ → ℕ
join worst x y = max x y
join whole x y = x + y

-- the largest, or the sum, of v over some stages; none where v is none at one of them
unfoldable pub joined : Kind → (ℕ → Cost) → List ℕ → Cost
joined k v [] = some 0
joined k v (t ∷ ts) = both (join k) (v t) (joined k v ts)

-- a check's cost plus the largest, or the sum, of its findings' costs by v, uncut, or none: the literature's Q-value
abbrev pub q_full : Kind → (ℕ → Cost) → Action → Cost
q_full k v a = both ◌+◌ (some a.cost) (joined k v a.successors)

-- S2.8: the price of a check by the values v: none where a finding's value is none, else cut to the ceiling
abbrev pub q : Kind → (ℕ → ℕ) → Action → ℕ
q k v a = amount (q_full k (λ t. cost_of (v t)) a)

-- of two stages, t of value x and u of value y, the dearer; t where they are equal
abbrev pub dearer_of : ℕ → ℕ → ℕ → ℕ → ℕ
dearer_of x y t u = fork (ltb x y) (λ _. u) (λ _. t)

-- of t and some stages behind it, the first whose v is largest
unfoldable pub dearest_from : (ℕ → ℕ) → ℕ → List ℕ → ℕ
dearest_from v t [] = t
dearest_from v t (u ∷ us) = dearest_from v (dearer_of (v t) (v u) t u) us

-- S2.9: the dearest of a check's findings by the values v, for both kinds: the first whose value is largest, and so the lowest-numbered,
-- since findings ascend; 0 for none, which question 4 rules out
unfoldable pub dearest : (ℕ → ℕ) → List ℕ → ℕ
dearest v [] = 0
dearest v (t ∷ ts) = dearest_from v t ts

-- what it is for t to be the lowest-numbered of some stages whose value by v is largest
pub record Dearest (v : ℕ → ℕ) (ts : List ℕ) (t : ℕ) : Type 0 where
  pub among : t ∈ ts
  pub largest : (u : ℕ) → u ∈ ts → v u ≤ v t
  pub lowest : (u : ℕ) → u ∈ ts → v u ≡ v t → t ≤ u

-- the least of x and of f over some checks, by what picks the lesser of two
unfoldable pub least_from : {A : Type 0} → (A → A → A) → A → (Action → A) → List Action → A
least_from pick x f [] = x
least_from pick x f (a ∷ more) = least_from pick (pick x (f a)) f more

-- S2.5, S6.7: the least of some prices, and of some costs; none where there is no check
abbrev pub least : (Action → ℕ) → List Action → ℕ
least f acts = least_from min no_plan f acts

abbrev pub least_cost : (Action → Cost) → List Action → Cost
least_cost f acts = least_from lesser none f acts
