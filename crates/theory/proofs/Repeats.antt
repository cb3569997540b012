-- S2.10: on a whole sheet each successor of an action counts, as often as the action lists it.
use Prim.Native.Nat.{ℕ, zero, suc, ◌+◌, ◌*◌, ◌<◌, ◌≤◌}
use mathlib.Core.Path.{◌≡◌, refl, sym, ap, ◌∙◌}
use mathlib.Core.Bool.{true}
use mathlib.Core.Option.{none, some}
use mathlib.Core.List.{List, [], ◌∷◌, ◌++◌}
use native.Mathlib.Omega.{arith}
use native.Mathlib.Nat.{mul-le-mul_right}
use lib.ListN.{length, replicate}
use Rattle.model.specs.Problem.{Kind, whole, Action, Form, decision, Problem, Cell, node_at, action_at, cell_of, value_of, solved, ◌∈◌}
use Rattle.model.specs.Limits.{ceiling}
use Rattle.model.specs.Cost.{Cost, amount, cost_of, both, times}
use Rattle.model.specs.QValue.{join, joined, q_full, q}
use Rattle.model.specs.Optimal.{optimal}
use Rattle.model.specs.Policy.{Policy, policy_cost}
use Rattle.theory.specs.Consistent.{WellFormed, Consistent}
use Rattle.layout.proofs.Prices.{cost-within}
use Rattle.theory.proofs.CostLaws.{amount-some}
use Rattle.theory.proofs.QValueLaws.{q-same, q-amount}
use Rattle.theory.proofs.PolicyLaws.{cost-decision}
use Rattle.theory.proofs.Admissible.{solved-optimal}

-- costs added: 0 in front, one more before a sum, and once more before n times
zero-first : (c : Cost) → both ◌+◌ (some 0) c ≡ c
unfolding both
zero-first none = refl
zero-first (some x) = ap some (omega arith)

added : (a b c : Cost) → both ◌+◌ a (both ◌+◌ b c) ≡ both ◌+◌ (both ◌+◌ a b) c
unfolding both
added none b c = refl
added (some x) none c = refl
added (some x) (some y) none = refl
added (some x) (some y) (some z) = ap some (omega arith)

once : (c : Cost) → both ◌+◌ c (some 0) ≡ times 1 c
unfolding both
once none = refl
once (some x) = ap some (omega arith)

once_more : (n : ℕ) (c : Cost) → both ◌+◌ c (times n c) ≡ times (suc n) c
unfolding both
once_more n none = refl
once_more n (some x) = ap some (omega arith)

module _ (v : ℕ → Cost) where
  -- the sum over two lists, and over one state n times
  joined-parts : (ts us : List ℕ) → joined whole v (ts ++ us) ≡ both ◌+◌ (joined whole v ts) (joined whole v us)
  unfolding joined join
  joined-parts [] us = sym (zero-first (joined whole v us))
  joined-parts (t ∷ ts) us = ap (both ◌+◌ (v t)) (joined-parts ts us) ∙ added (v t) (joined whole v ts) (joined whole v us)

  joined-run : (n t : ℕ) → joined whole v (replicate (suc n) t) ≡ times (suc n) (v t)
  unfolding joined join
  joined-run zero t = once (v t)
  joined-run (suc n) t = ap (both ◌+◌ (v t)) (joined-run n t) ∙ once_more (suc n) (v t)

  joined-times : (n t : ℕ) → 0 < n → joined whole v (replicate n t) ≡ times n (v t)
  joined-times zero t often = absurd (omega arith)
  joined-times (suc n) t often = joined-run n t

  -- n times in a row, wherever the run stands among others
  pub run-counts : (ts us : List ℕ) (n t : ℕ) → 0 < n →
      joined whole v (ts ++ (replicate n t ++ us)) ≡
      both ◌+◌ (joined whole v ts) (both ◌+◌ (times n (v t)) (joined whole v us))
  run-counts ts us n t often =
      joined-parts ts (replicate n t ++ us) ∙
      ap (both ◌+◌ (joined whole v ts))
      (joined-parts (replicate n t) us ∙ ap (λ (c : Cost). both ◌+◌ c (joined whole v us)) (joined-times n t often))

-- Action a of a whole sheet, whose kind is k, lists the state t n times and no other.
module _ (k : Kind) (is : k ≡ whole) (a : Action) (n t : ℕ) (often : 0 < n) (only : a.successors ≡ replicate n t) where
  -- what it costs by the costs v, and its price by the values v
  pub only-counts : (v : ℕ → Cost) → q_full k v a ≡ both ◌+◌ (some a.cost) (times n (v t))
  only-counts v = ap (λ (k : Kind). q_full k v a) is ∙ rw only (ap (both ◌+◌ (some a.cost)) (joined-times v n t often))

  pub only-priced : (v : ℕ → ℕ) → a.cost + n * v t ≤ ceiling → q k v a ≡ a.cost + n * v t
  unfolding both
  only-priced v fits =
      let small : v t ≤ ceiling = omega (arith, mul-le-mul_right {m = 1} {n = n} (v t) often) in
      ap amount (only-counts (λ u. cost_of (v u))) ∙ (rw (cost-within (v t) small) (amount-some (a.cost + n * v t) fits))

-- Action i of decision s of a whole problem lists the state t n times and no other.
module _ (p : Problem) (wf : WellFormed p) (is : p.kind ≡ whole) (s i n t : ℕ) {form : Form}
    (acts : List Action) (node : node_at p s ≡ decision form acts) (often : 0 < n)
    (only : (action_at acts i).successors ≡ replicate n t) where
  -- a policy that takes it pays for each
  pub policy-pays : (π : Policy) → π s ≡ some i → i < length acts →
      policy_cost p π s ≡ both ◌+◌ (some (action_at acts i).cost) (times n (policy_cost p π t))
  policy-pays π takes l =
      cost-decision p wf π s i acts node takes l ∙ only-counts p.kind is (action_at acts i) n t often only (policy_cost p π)

  -- where it solved the decision, the value is what it costs by V*, as written
  pub solved-pays : (cells : List Cell) → Consistent p cells → solved (cell_of cells s) ≡ true → (cell_of cells s).chosen ≡ i →
      i < length acts → value_of cells s ≡ amount (both ◌+◌ (some (action_at acts i).cost) (times n (optimal p t)))
  solved-pays cells h marked e l =
      let a : Action = action_at acts i in
      let settles = (h.sound s).settles acts node (omega arith) marked in
      let priced : value_of cells s ≡ q p.kind (value_of cells) a = rw e at settles.priced in
      let below : (u : ℕ) → u ∈ a.successors → solved (cell_of cells u) ≡ true = rw e at settles.below in
      priced ∙
      (q-same p.kind (value_of cells) (λ u. amount (optimal p u)) a (λ u m. solved-optimal p wf cells h u (below u m)) ∙
      (q-amount p.kind (optimal p) a ∙ ap amount (only-counts p.kind is a n t often only (optimal p))))
