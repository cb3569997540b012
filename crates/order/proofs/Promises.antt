-- What is promised of the rearranger and its inverse, for any bytes (S13.11 to S13.19).
use Prim.Native.Nat.{ℕ, zero, suc, ◌<◌, ◌≤◌}
use mathlib.Core.Path.{◌≡◌, refl, sym, ap, ◌∙◌, subst}
use mathlib.Core.Bool.{Bool, true, false}
use mathlib.Core.Option.{some}
use mathlib.Core.Logic.{◌⊎◌, inl, inr, ◌↔◌}
use mathlib.Core.List.{List, [], ◌∷◌, ◌++◌}
use native.Mathlib.Omega.{arith}
use borrow.Author.Tests.{eqb-true, eq-eqb}
use lib.ListN.{length}
use Rattle.model.proofs.QuestionLaws.{none-no, no_number, joined-no, joined-yes}
use Rattle.model.specs.Problem.{Problem, states}
use Rattle.model.specs.Format.{Bytes, write}
use Rattle.model.specs.Read.{problem_of, cells_of}
use Rattle.model.specs.Optimal.{optimal}
use Rattle.model.specs.Policy.{Policy, Closed, policy_cost}
use Rattle.model.specs.Questions.{Question, question, question7, question8, first_no}
use Rattle.model.specs.Calls.{Call, Calls, left}
use Rattle.layout.specs.Shape.{Shaped, Inside}
use Rattle.layout.proofs.Shapes.{draft-inside}
use Rattle.theory.proofs.Basics.{clash}
use Rattle.theory.proofs.Promises.{some-policy, every-policy}
use Rattle.theory.proofs.Sheets.{accepted-stands}
use Rattle.order.specs.Order.{order, inverse}
use Rattle.order.specs.Moved.{at, moved_cells, rearranged}
use Rattle.order.specs.Asking.{question11, before_circle, rearrange_refusal, restore_refusal, rearranged_bytes, restored_bytes}
use Rattle.order.specs.Claims.{Circle, Perm, LeastCosts, SameChoices, SameCosts, Rearranges, Restores}
use Rattle.order.proofs.Anylist.{any-restores}
use Rattle.order.proofs.Circles.{full-iff, full-or-circle}
use Rattle.order.proofs.Described.{order_is}
use Rattle.order.proofs.Least.{draft-solves, draft-only, draft-plan}
use Rattle.order.proofs.Placing.{order-perm, order-forward}
use Rattle.order.proofs.Pointing.{pointed-below}
use Rattle.order.proofs.Sheets.{Draft, unrefused-draft, new-sheet, new-problem, new-length, new-costs, new-demand, new-unmoved}
use Rattle.order.proofs.Sheets.{back-exactly, worked_back}

-- Question 11 is answered yes exactly where findings lead in no circle.
pub eleven-iff : (p : Problem) → (question11 p ≡ true) ↔ (Circle p → ⊥)
unfolding question11
eleven-iff p = (λ e. (full-iff p).0 (eqb-true _ _ e), λ none. eq-eqb _ _ ((full-iff p).1 none))

-- S13.11: the rearranger refuses by 11 exactly where every question before it is answered yes and findings lead in a circle.
module _ (s : List ℕ) (entries output listed : ℕ) where
  abbrev before : List Question
  before = before_circle s entries output listed

  abbrev behind : List Question
  behind =
      question 11 (λ _. question11 (problem_of s))
      ∷ question 7 (λ _. question7 (problem_of s) (cells_of s))
      ∷ question 8 (λ _. question8 (problem_of s) (cells_of s))
      ∷ []

  put-in-turn : rearrange_refusal s entries output listed ≡ first_no (before ++ behind)
  unfolding rearrange_refusal
  put-in-turn = refl

  -- of the three questions left, the first no is 11 just where 11 is answered no
  behind-circle : Circle (problem_of s) → first_no behind ≡ 11
  unfolding first_no
  behind-circle c = go (question11 (problem_of s)) refl
    where
      go : (b : Bool) → question11 (problem_of s) ≡ b → first_no behind ≡ 11
      go true e = absurd ((eleven-iff (problem_of s)).0 e c)
      go false e = rw e

  circle-behind : first_no behind ≡ 11 → Circle (problem_of s)
  unfolding first_no question11
  circle-behind h = go (question11 (problem_of s)) refl (full-or-circle (problem_of s))
    where
      two : List Question
      two = question 7 (λ _. question7 (problem_of s) (cells_of s)) ∷ question 8 (λ _. question8 (problem_of s) (cells_of s)) ∷ []

      go : (b : Bool) → question11 (problem_of s) ≡ b → (length (order (problem_of s)) ≡ states (problem_of s)) ⊎ Circle (problem_of s) →
          Circle (problem_of s)
      go true e c = absurd (no_number 11 two refl (omega arith) (rw e at h))
      go false e (inl full) = clash (eq-eqb _ _ full) e
      go false e (inr c) = c

  pub refused-circle : (rearrange_refusal s entries output listed ≡ 11) ↔ ((first_no before ≡ 0) × Circle (problem_of s))
  refused-circle = (λ h. for (first_no before) refl h, λ h. where-circle h.0 h.1)
    where
      where-circle : first_no before ≡ 0 → Circle (problem_of s) → rearrange_refusal s entries output listed ≡ 11
      where-circle none c = put-in-turn ∙ (joined-yes before behind (none-no before refl none) ∙ behind-circle c)

      for : (n : ℕ) → first_no before ≡ n → rearrange_refusal s entries output listed ≡ 11 → (first_no before ≡ 0) × Circle (problem_of s)
      for zero e h = (e, circle-behind (sym (joined-yes before behind (none-no before refl e)) ∙ (sym put-in-turn ∙ h)))
      for (suc n) e h =
          let some : first_no before ≡ 0 → ⊥ = λ z. omega (arith, e) in
          absurd (no_number 11 before refl (omega arith) (sym (joined-no before behind some) ∙ (sym put-in-turn ∙ h)))

-- Of the draft of a call that is not refused: its own least costs and plans, by those of the new sheet.
module _ (s : List ℕ) (byte : Bytes s) (d : Draft s) where
  abbrev p : Problem
  p = problem_of s

  abbrev from : List ℕ
  from = order p

  abbrev to : List ℕ
  to = inverse from

  h : Perm (states p) from to
  h = order-perm p d.full

  inside : Inside p
  inside = draft-inside p d.six

  costs : SameCosts p (problem_of (rearranged_bytes s)) from to
  costs = new-costs s byte d

  draft-some : (t x : ℕ) → t < states p → optimal p t ≡ some x → (π : Policy) × Closed p π t × (policy_cost p π t ≡ some x)
  draft-some t x l e =
      let (ρ, closed, cost) = some-policy (rearranged_bytes s) (new-sheet s byte d) (at to t) x (costs.least t l ∙ e) in
      let π : Policy = λ u. ρ (at to u) in
      let same : SameChoices (states p) from π ρ = λ k lk. ap ρ (sym (h.to_from k lk)) in
      (π, (costs.complete π ρ same t l).1 closed, sym (costs.plan_cost π ρ same t l) ∙ cost)

  draft-every : (π : Policy) (t : ℕ) → t < states p → Closed p π t →
      (x y : ℕ) × (optimal p t ≡ some x) × (policy_cost p π t ≡ some y) × (x ≤ y)
  draft-every π t l closed =
      let ρ : Policy = λ k. π (at from k) in
      let same : SameChoices (states p) from π ρ = λ k lk. refl in
      let (x, y, ex, ey, le) =
      every-policy (rearranged_bytes s) (new-sheet s byte d) ρ (at to t) ((costs.complete π ρ same t l).0 closed) in
      (x, y, sym (costs.least t l) ∙ ex, sym (costs.plan_cost π ρ same t l) ∙ ey, le)

  draft_costs : LeastCosts p
  draft_costs = record {
    solves = draft-solves p inside d.full;
    only = draft-only p inside d.full;
    plan_solves = draft-plan p inside d.full;
    some_plan = draft-some;
    every_plan = draft-every;
  }

  calls_back : (calls : List Call) → Calls (rearranged_bytes s) calls → (rest : List ℕ) →
      restored_bytes (left (rearranged_bytes s) calls) (from ++ rest) ≡
      write p (moved_cells to (cells_of (left (rearranged_bytes s) calls)))
  calls_back calls made rest =
      let b = left (rearranged_bytes s) calls in
      let kept = new-demand s byte d calls made in
      let stands = accepted-stands b kept.still_accepted.bytes kept.still_accepted.yes in
      let same : problem_of b ≡ rearranged p = kept.same_problem ∙ new-problem s byte d in
      let is : b ≡ write (rearranged p) (cells_of b) = stands.is ∙ ap (λ (q : Problem). write q (cells_of b)) same in
      let shaped = subst (λ (q : Problem). Shaped q (cells_of b)) same stands.asked.shaped in
      ap (λ (x : List ℕ). restored_bytes x (from ++ rest)) is ∙ worked_back s byte d (cells_of b) rest shaped

-- What the rearranger makes of a draft that it does not refuse.
pub rearranges : (s : List ℕ) → Bytes s → (entries output listed : ℕ) → rearrange_refusal s entries output listed ≡ 0 → Rearranges s
rearranges s byte entries output listed un =
    let d = (unrefused-draft s entries output listed un).2 in
    record {
      no_circle = (full-iff (problem_of s)).0 d.full;
      ordered = order_is (problem_of s);
      renumbered = order-perm (problem_of s) d.full;
      upward = λ i t l e. order-forward (problem_of s) d.full i t l (pointed-below (problem_of s) (inside s byte d) i t e) e;
      long = new-length s byte d;
      accepted = new-sheet s byte d;
      keeps = new-demand s byte d;
      draft_costs = draft_costs s byte d;
      same_costs = new-costs s byte d;
      in_order = new-unmoved s byte d;
      back = back-exactly s byte d;
      worked_back = calls_back s byte d;
    }

-- What the inverse makes of a sheet by a list that it does not refuse.
pub restores : (s list : List ℕ) → Bytes s → (entries output : ℕ) → restore_refusal s entries list output ≡ 0 → Restores s list
restores = any-restores
