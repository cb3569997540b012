-- Plans of a problem and of the same problem renumbered, which choose the same checks: what they reach, and where they are complete. So
-- least costs and plans go over from one to the other.
use Prim.Native.Nat.{ℕ, ◌<◌}
use mathlib.Core.Path.{◌≡◌, refl, sym, ap, ◌∙◌, subst}
use mathlib.Core.Bool.{Bool, true, false}
use mathlib.Core.Logic.{◌↔◌}
use mathlib.Core.Option.{some}
use mathlib.Core.List.{List, [], map}
use native.Mathlib.Omega.{arith}
use borrow.Author.Tests.{ltb-true, ltb-false}
use lib.Dec.{ltb}
use lib.ListN.{length, length-map, get_or-eq_default}
use Rattle.model.specs.Format.{actions_of}
use Rattle.model.specs.Policy.{Policy, Reach, arrived, onward, Closed}
use Rattle.model.specs.Problem.{Action, action, Form, Node, terminal, decision, Problem, states, node_at, action_at, ◌∈◌}
use Rattle.model.specs.Questions.{question6_draft}
use Rattle.layout.proofs.Shapes.{is_state}
use Rattle.layout.specs.Shape.{Inside}
use Rattle.order.proofs.Back.{flip, problem-back}
use Rattle.order.proofs.Costs.{get_d_map, moved-states, moved-node, keeps-optimal-old, keeps-plan-cost}
use Rattle.order.proofs.Sorting.{in-sorted}
use Rattle.order.specs.Claims.{Perm, SameChoices, SameCosts}
use Rattle.order.specs.Moved.{at, moved_action, moved_node, moved}

-- a finding of a check is one of the renumbered check's, under its new number
in_moved : (to : List ℕ) (acts : List Action) (i u : ℕ) → u ∈ (action_at acts i).successors →
    at to u ∈ (action_at (map (moved_action to) acts) i).successors
in_moved to acts i u m = go (ltb i (length acts)) refl
  where
    none : u ∈ [] → ⊥
    none m = elim m [ ]

    go : (b : Bool) → ltb i (length acts) ≡ b → at to u ∈ (action_at (map (moved_action to) acts) i).successors
    go true l =
        rw (get_d_map (moved_action to) acts i (action 0 []) (action 0 []) (ltb-true _ _ l)) (in-sorted (at to) m)
    go false l =
        absurd (none (subst (λ (a : Action). u ∈ a.successors) (get_or-eq_default acts (action 0 []) {n = i} (ltb-false _ _ l)) m))

module _ (tag : ℕ) (p : Problem) (from to : List ℕ) (h : Perm (states p) from to) (any : Inside p) where
  abbrev q : Problem
  q = moved tag from to p

  -- a junction of p is one of q, under its new number
  junction-moved : (s : ℕ) {form : Form} (acts : List Action) → node_at p s ≡ decision form acts →
      node_at q (at to s) ≡ decision form (map (moved_action to) acts)
  unfolding moved_node
  junction-moved s acts e =
      let l = is_state p s acts e in
      moved-node tag p from to h (at to s) (h.to_below s l) ∙
      ap (λ (s : ℕ). moved_node to (node_at p s)) (h.from_to s l) ∙ ap (moved_node to) e

  module _ (π ρ : Policy) (same : SameChoices (states p) from π ρ) where
    -- the same choice, by the old number
    chosen : (s : ℕ) → s < states p → ρ (at to s) ≡ π s
    chosen s l = same (at to s) (h.to_below s l) ∙ ap π (h.from_to s l)

    reach-moved : {t u : ℕ} → Reach p π t u → Reach q ρ (at to t) (at to u)
    reach-moved (arrived {s}) = arrived
    reach-moved (onward {s} {u} {t} {i} {form} {acts} e takes m r) =
        onward (junction-moved s acts e) (chosen s (is_state p s acts e) ∙ takes) (in_moved to acts i u m) (reach-moved r)

-- Both ways, where the findings of p are in order, so that q renumbered back is p.
module _ (tag : ℕ) (p : Problem) (from to : List ℕ) (h : Perm (states p) from to) (six : question6_draft p ≡ true)
    (start : p.start < states p) (any : Inside p) (any' : Inside (moved tag from to p))
    (π ρ : Policy) (same : SameChoices (states p) from π ρ) where
  back : Perm (states (moved tag from to p)) to from
  back = rw (moved-states tag p from to h) (flip h)

  same_back : SameChoices (states (moved tag from to p)) to ρ π
  same_back k l =
      let lk : k < states p = rw (moved-states tag p from to h) at l in sym (chosen tag p from to h any π ρ same k lk)

  reach-back : (t u : ℕ) → t < states p → u < states p → Reach (moved tag from to p) ρ (at to t) (at to u) → Reach p π t u
  reach-back t u lt lu r =
      let r' = reach-moved p.head (moved tag from to p) to from back any' ρ π same_back r in
      rw (problem-back tag p from to h six start, h.from_to t lt, h.from_to u lu) at r'

  pub reached-same : (t u : ℕ) → t < states p → u < states p → Reach p π t u ↔ Reach (moved tag from to p) ρ (at to t) (at to u)
  reached-same t u lt lu = (reach-moved tag p from to h any π ρ same, reach-back t u lt lu)

  closed-back : (t : ℕ) → Closed (moved tag from to p) ρ (at to t) → Closed p π t
  closed-back t closed u form acts r e =
      let l = is_state p u acts e in
      let (i, takes, exists) = closed (at to u) form (map (moved_action to) acts) (reach-moved tag p from to h any π ρ same r)
      (junction-moved tag p from to h any u acts e) in
      (i, sym (chosen tag p from to h any π ρ same u l) ∙ takes, rw (length-map acts (moved_action to)) at exists)

  closed-moved : (t : ℕ) → t < states p → Closed p π t → Closed (moved tag from to p) ρ (at to t)
  unfolding moved_node actions_of
  closed-moved t lt closed u form acts r e =
      let l : u < states p = rw (moved-states tag p from to h) at (is_state (moved tag from to p) u acts e) in
      let lf : at from u < states p = h.from_below u l in
      let r' = reach-back t (at from u) lt lf (rw (h.to_from u l) r) in
      by l r' (node_at p (at from u)) refl (sym (moved-node tag p from to h u l) ∙ e)
    where
      by : u < states p → Reach p π t (at from u) → (n : Node) → node_at p (at from u) ≡ n → moved_node to n ≡ decision form acts →
          (i : ℕ) × (ρ u ≡ some i) × (i < length acts)
      by l r (terminal cost) en g = let z : ◌≡◌ {A = ℕ} 0 1 = cc g in absurd (omega arith)
      by l r (decision form₀ acts₀) en g =
          let (i, takes, exists) = closed (at from u) form₀ acts₀ r en in
          let long : length acts₀ ≡ length acts =
          sym (length-map acts₀ (moved_action to)) ∙ ap (λ (n : Node). length (actions_of n)) g in
          (i, same u l ∙ takes, omega (arith, exists, long))

  pub closed_same : (t : ℕ) → t < states p → Closed p π t ↔ Closed (moved tag from to p) ρ (at to t)
  closed_same t lt = (closed-moved t lt, closed-back t)

pub costs-moved : (tag : ℕ) (p : Problem) (from to : List ℕ) → Perm (states p) from to → question6_draft p ≡ true → p.start < states p →
    Inside p → Inside (moved tag from to p) → SameCosts p (moved tag from to p) from to
costs-moved tag p from to h six start any any' = record {
  least = keeps-optimal-old tag p from to h any;
  reached = reached-same tag p from to h six start any any';
  complete = closed_same tag p from to h six start any any';
  plan_cost = keeps-plan-cost tag p from to h any;
}
