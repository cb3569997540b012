-- What is claimed of the order, of the new sheet, and of the draft that the inverse makes (S13.11 to S13.19).
use Rattle.std.specs.Prelude.{ℕ, ◌<◌, ◌≤◌, ◌≡◌, true, ◌↔◌, List, ◌∷◌, ◌++◌, length, take, drop}
use Rattle.std.proofs.Math.Option.{some}
use Rattle.model.specs.Problem.{Problem, states, node_at, ◌∈◌}
use Rattle.model.specs.Format.{Bytes, head_tag, write}
use Rattle.model.specs.Read.{problem_of, cells_of}
use Rattle.model.specs.Cost.{Cost}
use Rattle.model.specs.Questions.{question6, first_no}
use Rattle.model.specs.Optimal.{bellman, optimal}
use Rattle.model.specs.Policy.{Policy, Reach, Closed, cost_at, policy_cost}
use Rattle.model.specs.Calls.{Call, Calls, left}
use Rattle.model.specs.Demands.{Accepted, Demand3}
use Rattle.order.specs.Order.{points_to, order, inverse}
use Rattle.order.specs.Moved.{at, moved_cells}
use Rattle.order.specs.Asking.{draft_questions, rearranged_bytes, restored_bytes}

-- S13.4: t is found from s by one finding or more
pub data Chain (p : Problem) : ℕ → ℕ → Type 0 where
  step : {s t : ℕ} → points_to (node_at p s) t ≡ true → Chain p s t
  onward : {s u t : ℕ} → points_to (node_at p s) u ≡ true → Chain p u t → Chain p s t

-- findings lead in a circle
abbrev pub Circle : Problem → Type 0
Circle p = (s : ℕ) × (s < states p) × Chain p s s

-- S13.2 in words: t may be placed behind some stages. It is a stage, none of them, and every junction that points to it is one of them.
pub record MayFollow (p : Problem) (placed : List ℕ) (t : ℕ) : Type 0 where
  pub stage : t < states p
  pub unplaced : t ∈ placed → ⊥
  pub pointed : (s : ℕ) → points_to (node_at p s) t ≡ true → s ∈ placed

-- S13.12: a list is an order where each entry is the lowest that may follow those before it, and nothing may follow the last
pub record IsOrder (p : Problem) (xs : List ℕ) : Type 0 where
  pub follows : (k : ℕ) → k < length xs → MayFollow p (take k xs) (at xs k)
  pub lowest : (k : ℕ) → k < length xs → (t : ℕ) → MayFollow p (take k xs) t → at xs k ≤ t
  pub ended : (t : ℕ) → MayFollow p xs t → ⊥

-- two lists of the n numbers below n, each the other's way back
pub record Perm (n : ℕ) (from to : List ℕ) : Type 0 where
  pub from_length : length from ≡ n
  pub to_length : length to ≡ n
  pub from_below : (s : ℕ) → s < n → at from s < n
  pub to_below : (t : ℕ) → t < n → at to t < n
  pub to_from : (s : ℕ) → s < n → at to (at from s) ≡ s
  pub from_to : (t : ℕ) → t < n → at from (at to t) ≡ t

-- S13.14, of a draft's problem: V* solves the Bellman equation at every stage, and no other costs do. And S13.15 of it: what a plan costs
-- solves the equation of S2.3, some complete plan costs V* where that is a number, and where a plan is complete, V* is a number and the
-- plan costs at least that.
pub record LeastCosts (p : Problem) : Type 0 where
  pub solves : (t : ℕ) → t < states p → optimal p t ≡ bellman p t (optimal p)
  pub only : (v : ℕ → Cost) → ((t : ℕ) → t < states p → v t ≡ bellman p t v) → (t : ℕ) → t < states p → v t ≡ optimal p t
  pub plan_solves : (π : Policy) (t : ℕ) → t < states p → policy_cost p π t ≡ cost_at p.kind (policy_cost p π) (node_at p t) (π t)
  pub some_plan : (t x : ℕ) → t < states p → optimal p t ≡ some x →
      (π : Policy) × Closed p π t × (policy_cost p π t ≡ some x)
  pub every_plan : (π : Policy) (t : ℕ) → t < states p → Closed p π t →
      (x y : ℕ) × (optimal p t ≡ some x) × (policy_cost p π t ≡ some y) × (x ≤ y)

-- S13.15: the plan π of the problem p and the plan ρ of the problem q choose the same check at each stage, where number k of q is
-- number `at from k` of p
abbrev pub SameChoices : ℕ → List ℕ → Policy → Policy → Type 0
SameChoices n from π ρ = (k : ℕ) → k < n → ρ k ≡ π (at from k)

-- S13.14 and S13.15 of two problems, where number t of p is number `at to t` of q: every stage has the same least cost; and of two plans
-- that choose the same checks one reaches what the other does, is complete where the other is, and costs the same
pub record SameCosts (p q : Problem) (from to : List ℕ) : Type 0 where
  pub least : (t : ℕ) → t < states p → optimal q (at to t) ≡ optimal p t
  pub reached : (π ρ : Policy) → SameChoices (states p) from π ρ → (t u : ℕ) → t < states p → u < states p →
      Reach p π t u ↔ Reach q ρ (at to t) (at to u)
  pub complete : (π ρ : Policy) → SameChoices (states p) from π ρ → (t : ℕ) → t < states p → Closed p π t ↔ Closed q ρ (at to t)
  pub plan_cost : (π ρ : Policy) → SameChoices (states p) from π ρ → (t : ℕ) → t < states p →
      policy_cost q ρ (at to t) ≡ policy_cost p π t

-- What the rearranger makes of the draft s, which it does not refuse.
pub record Rearranges (s : List ℕ) : Type 0 where
  -- S13.11, S13.12: there is no circle; the order is the one that S13.2 describes, and a renumbering of all stages
  pub no_circle : Circle (problem_of s) → ⊥
  pub ordered : IsOrder (problem_of s) (order (problem_of s))
  pub renumbered : Perm (states (problem_of s)) (order (problem_of s)) (inverse (order (problem_of s)))
  -- S13.13: every finding's new number is above its junction's; the new sheet is as long as s and accepted, and so demand 3 holds of it
  pub upward : (i t : ℕ) → i < states (problem_of s) → points_to (node_at (problem_of s) i) t ≡ true →
      at (inverse (order (problem_of s))) i < at (inverse (order (problem_of s))) t
  pub long : length (rearranged_bytes s) ≡ length s
  pub accepted : Accepted (rearranged_bytes s)
  pub keeps : (calls : List Call) → Calls (rearranged_bytes s) calls → Demand3 (rearranged_bytes s) calls
  -- S13.14, S13.15
  pub draft_costs : LeastCosts (problem_of s)
  pub same_costs : SameCosts (problem_of s) (problem_of (rearranged_bytes s)) (order (problem_of s)) (inverse (order (problem_of s)))
  -- S13.16: where findings are above their junctions already, nothing but the tag of the head changes
  pub in_order : question6 (problem_of s) ≡ true → rearranged_bytes s ≡ head_tag ∷ drop 1 s
  -- S13.17: the inverse gives s back, whatever follows the stages in its list
  pub back : (rest : List ℕ) → restored_bytes (rearranged_bytes s) (order (problem_of s) ++ rest) ≡ s
  -- S13.18: and after any calls on the new sheet the old problem, with the cells that they left at the old numbers
  pub worked_back : (calls : List Call) → Calls (rearranged_bytes s) calls → (rest : List ℕ) →
      restored_bytes (left (rearranged_bytes s) calls) (order (problem_of s) ++ rest) ≡
      write (problem_of s) (moved_cells (inverse (order (problem_of s))) (cells_of (left (rearranged_bytes s) calls)))

-- What the inverse makes of the sheet s by a list, which it does not refuse (S13.19): bytes, as many, that get a yes to every question
-- about a draft, so that the rearranger can refuse it for want of room alone; and number t of s, which is number `at old t` of the draft,
-- keeps its least cost, and plans keep theirs.
pub record Restores (s list : List ℕ) : Type 0 where
  pub bytes : Bytes (restored_bytes s list)
  pub long : length (restored_bytes s list) ≡ length s
  pub yes : first_no (draft_questions (restored_bytes s list)) ≡ 0
  pub same_costs : let old = take (states (problem_of s)) list in
      SameCosts (problem_of s) (problem_of (restored_bytes s list)) (inverse old) old
