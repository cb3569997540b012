-- S2.9: the dearest successor is the lowest-numbered of those whose value is largest, and the only such number.
use Prim.Native.Nat.{ℕ, ◌+◌, ◌<◌, ◌≤◌}
use mathlib.Core.Path.{◌≡◌, refl, ap, ◌∙◌}
use mathlib.Core.Logic.{◌⊎◌, inl, inr}
use mathlib.Core.Bool.{Bool, true, false}
use mathlib.Core.Option.{some}
use mathlib.Core.List.{List, [], ◌∷◌}
use native.Mathlib.Omega.{arith}
use borrow.Author.Tests.{ltb-true, ltb-false}
use lib.Dec.{ltb}
use lib.ListN.{length}
use Rattle.model.specs.Problem.{worst, Action, Form, decision, Problem, node_at, action_at, ◌∈◌, here, there}
use Rattle.model.specs.Limits.{ceiling, no_plan}
use Rattle.model.specs.Cost.{Cost, cut, amount, cost_of, both, ◌⊑◌}
use Rattle.model.specs.QValue.{join, joined, q, dearest_from, dearest, Dearest}
use Rattle.layout.proofs.Prices.{cost-within, cost-above}
use Rattle.theory.specs.Consistent.{Ascends, WellFormed}
use Rattle.theory.proofs.Basics.{lt-or-le}
use Rattle.theory.proofs.CostLaws.{at-most-both, cost-mono, zero-most, larger-within}
use Rattle.theory.proofs.QValueLaws.{joined-below}

module _ (v : ℕ → ℕ) where
  -- one state alone
  only_one : (t : ℕ) → Dearest v (t ∷ []) t
  only_one t = record { among = here; largest = λ u m. omega (arith, is u m); lowest = λ u m e. omega (arith, is u m) }
    where
      is : (u : ℕ) → u ∈ (t ∷ []) → (u ≡ t) × (v u ≡ v t)
      is u here = (refl, refl)
      is u (there m) = absurd (elim m [ ])

  -- a state put before one that is dearer
  passed : {t u r : ℕ} {us : List ℕ} → v t < v u → Dearest v (u ∷ us) r → Dearest v (t ∷ u ∷ us) r
  passed {t} {u} {r} {us} lt h = record { among = there h.among; largest = large; lowest = low }
    where
      large : (w : ℕ) → w ∈ (t ∷ u ∷ us) → v w ≤ v r
      large w here = omega (arith, h.largest u here)
      large w (there m) = h.largest w m

      low : (w : ℕ) → w ∈ (t ∷ u ∷ us) → v w ≡ v r → r ≤ w
      low w here e = absurd (omega (arith, h.largest u here))
      low w (there m) e = h.lowest w m e

  -- a state put behind one that is at least as dear and not above it
  kept : {t u r : ℕ} {us : List ℕ} → v u ≤ v t → t ≤ u → Dearest v (t ∷ us) r → Dearest v (t ∷ u ∷ us) r
  kept {t} {u} {r} {us} le up h = record { among = wider r h.among; largest = large; lowest = low }
    where
      wider : (w : ℕ) → w ∈ (t ∷ us) → w ∈ (t ∷ u ∷ us)
      wider w here = here
      wider w (there m) = there (there m)

      large : (w : ℕ) → w ∈ (t ∷ u ∷ us) → v w ≤ v r
      large w here = h.largest t here
      large w (there here) = omega (arith, h.largest t here)
      large w (there (there m)) = h.largest w (there m)

      low : (w : ℕ) → w ∈ (t ∷ u ∷ us) → v w ≡ v r → r ≤ w
      low w here e = h.lowest t here e
      low w (there here) e = let same : v t ≡ v r = omega (arith, h.largest t here) in omega (arith, h.lowest t here same)
      low w (there (there m)) e = h.lowest w (there m) e

  from-dearest : (t : ℕ) (us : List ℕ) → Ascends (t ∷ us) → Dearest v (t ∷ us) (dearest_from v t us)
  unfolding dearest_from
  from-dearest t [] up = only_one t
  from-dearest t (u ∷ us) up =
      go (ltb (v t) (v u)) refl (from-dearest u us up.1) (from-dearest t us (λ w m. up.0 w (there m), up.1.1))
    where
      go : (b : Bool) → ltb (v t) (v u) ≡ b → Dearest v (u ∷ us) (dearest_from v u us) →
          Dearest v (t ∷ us) (dearest_from v t us) →
          Dearest v (t ∷ u ∷ us) (dearest_from v t (u ∷ us))
      go true e next this = rw e (passed (ltb-true (v t) (v u) e) next)
      go false e next this = rw e (kept (ltb-false (v t) (v u) e) (up.0 u here) this)

  -- of states that ascend, equal ones allowed, it is that number
  pub dearest-is : (ts : List ℕ) → 0 < length ts → Ascends ts → Dearest v ts (dearest v ts)
  unfolding dearest
  dearest-is [] has up = absurd (omega arith)
  dearest-is (t ∷ ts) has up = from-dearest t ts up

  module _ {ts : List ℕ} {t : ℕ} (h : Dearest v ts t) where
    -- and there is no other
    pub dearest-only : (u : ℕ) → Dearest v ts u → u ≡ t
    dearest-only u g =
        let same : v u ≡ v t = omega (arith, h.largest u g.among, g.largest t h.among) in
        omega (arith, h.lowest u g.among same, g.lowest t h.among (omega arith))

    -- its value is what a worst sheet's action costs beside its own cost, none where it is none
    pub dearest-joined : joined worst (λ u. cost_of (v u)) ts ≡ cost_of (v t)
    unfolding join joined
    dearest-joined = at-most-both _ _ (within ts h.largest) (joined-below worst (λ u. cost_of (v u)) h.among)
      where
        within : (us : List ℕ) → ((u : ℕ) → u ∈ us → v u ≤ v t) → joined worst (λ u. cost_of (v u)) us ⊑ cost_of (v t)
        within [] most = zero-most (cost_of (v t))
        within (u ∷ us) most =
            larger-within _ _ (cost_of (v t)) (cost-mono (v u) (v t) (most u here)) (within us (λ w m. most w (there m)))

-- a worst sheet's price below the ceiling is the action's cost plus the value of its dearest successor
pub dearest-costs : (v : ℕ → ℕ) (a : Action) {t x : ℕ} → Dearest v a.successors t → x ≡ q worst v a → x < ceiling →
    x ≡ a.cost + v t
unfolding both amount
dearest-costs v a {t} {x} h priced low = go (lt-or-le ceiling (v t))
  where
    is : x ≡ amount (both ◌+◌ (some a.cost) (cost_of (v t)))
    is = priced ∙ ap (λ (c : Cost). amount (both ◌+◌ (some a.cost) c)) (dearest-joined v h)

    go : (ceiling < v t) ⊎ (v t ≤ ceiling) → x ≡ a.cost + v t
    go (inl above) = let none_is : x ≡ no_plan = rw (cost-above (v t) above) at is in absurd (omega arith)
    go (inr within) = let cut-is : x ≡ cut (a.cost + v t) = rw (cost-within (v t) within) at is in omega arith

-- so it is for every action of a well-formed problem, by any values
pub action-dearest : (p : Problem) → WellFormed p → (s i : ℕ) {form : Form} (acts : List Action) → node_at p s ≡ decision form acts →
    i < length acts →
    (v : ℕ → ℕ) → Dearest v (action_at acts i).successors (dearest v (action_at acts i).successors)
action-dearest p wf s i acts e l v = let (has, up) = wf.ordered s i acts e l in dearest-is v (action_at acts i).successors has up
