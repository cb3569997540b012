-- S8: the three demands, each a claim about calls as their caller sees them. The crate `theory` has the theorems; `ldfs` and `host` have
-- them of the code.
use Rattle.std.specs.Prelude.{ℕ, suc, ◌+◌, ◌-◌, ◌<◌, ◌≤◌, ◌≡◌, true, false, ◌⊎◌, List, ◌∷◌, ◌++◌, length, take, drop, replicate}
use Rattle.std.proofs.Math.Option.{none, some}
use Rattle.model.specs.Problem.{Action, counted, decision, Problem, Cell, node_at, action_at, cell_of, value_of, solved}
use Rattle.model.specs.Format.{Bytes, action_size, actions_of, action_offset}
use Rattle.model.specs.Read.{problem_of, cells_of}
use Rattle.model.specs.Limits.{max_states, ceiling, no_plan}
use Rattle.model.specs.Cost.{Cost, amount, ◌⊑◌}
use Rattle.model.specs.Questions.{questions, answer_at, First, accepted, accepted_under, refusal}
use Rattle.model.specs.Optimal.{optimal, gaps}
use Rattle.model.specs.Ldfs.{work}
use Rattle.model.specs.History.{Change, History}
use Rattle.model.specs.Policy.{Policy, Reach, Closed, policy_cost, written}
use Rattle.model.specs.Earlier.{strict_refusal, checked_refusal, checked_accepted, answer_then, bytes_then, plain_refusal, Uncounted}
use Rattle.model.specs.Report.{cells_after, raises_of, answer_given, bytes_given, answer_under, bytes_under, table_given, table_under}
use Rattle.model.specs.Calls.{Call, call_on, left, raises_in}

-- an accepted sheet, however far it has been worked: bytes that get a yes to every question but those on the table and the budget
pub record Accepted (s : List ℕ) : Type 0 where
  pub bytes : Bytes s
  pub yes : accepted s ≡ true

-- the cell of the start in the bytes s' that were left of the sheet s
abbrev pub start_cell : List ℕ → List ℕ → Cell
start_cell s s' = cell_of (cells_of s') (problem_of s).start

-- the least cost of the start of the sheet s
abbrev pub start_cost : List ℕ → Cost
start_cost s = optimal (problem_of s) (problem_of s).start

-- the start's plan, which takes the chosen check written at each junction it reaches: it is complete, costs the start's value, every
-- complete plan from the start costs at least as much, and every stage that it reaches is settled
pub record Best (p : Problem) (cells : List Cell) : Type 0 where
  pub complete : Closed p (written cells) p.start
  pub costs : policy_cost p (written cells) p.start ≡ some (value_of cells p.start)
  pub least : (π : Policy) → Closed p π p.start → policy_cost p (written cells) p.start ⊑ policy_cost p π p.start
  pub settled : (t : ℕ) → Reach p (written cells) p.start t → solved (cell_of cells t) ≡ true

-- S8.14: what there may be of complete plans from the start: none at all; some, and all cost the ceiling or more; one that costs less
abbrev pub NoPlan : Problem → Type 0
NoPlan p = (π : Policy) → Closed p π p.start → ⊥

pub record PlansAbove (p : Problem) : Type 0 where
  pub plan : Policy
  pub complete : Closed p plan p.start
  pub every : (π : Policy) → Closed p π p.start → some ceiling ⊑ policy_cost p π p.start

pub record PlanBelow (p : Problem) : Type 0 where
  pub plan : Policy
  pub complete : Closed p plan p.start
  pub cost : ℕ
  pub costs : policy_cost p plan p.start ≡ some cost
  pub below : cost < ceiling

-- Demand 1 (S5.1 to S5.3, S8.1), of a call c on the bytes s with a table of so many entries and a budget: it was refused by the first
-- question whose answer is no, and left the bytes unaltered; or every answer is yes, and it ended settled (100), over (101), stopped
-- (102) or none (103).
pub data Demand1 (s : List ℕ) (entries budget : ℕ) (c : Call) : Type 0 where
  refused : First (questions s entries budget) c.number → (c.price ≡ 0) × (c.passes ≡ 0) × (c.raises ≡ 0) →
      c.bytes ≡ s → Demand1 s entries budget c
  worked : ((i : ℕ) → answer_at (questions s entries budget) i ≡ true) →
      (c.number ≡ 100) ⊎ ((c.number ≡ 101) ⊎ ((c.number ≡ 102) ⊎ (c.number ≡ 103))) → Demand1 s entries budget c

-- S8.2, a settled call: the price is the least cost of the start, below the ceiling; the start is marked, and its plan is best
pub record SettledAt (s : List ℕ) (c : Call) : Type 0 where
  pub price : start_cost s ≡ some c.price
  pub below : c.price < ceiling
  pub marked : solved (start_cell s c.bytes) ≡ true
  pub best : Best (problem_of s) (cells_of c.bytes)

-- S8.3, a call that is over: the price is the ceiling, there is a complete plan and every one costs that or more, so does the least cost,
-- the start is marked, and the plan written in the sheet is complete
pub record OverAt (s : List ℕ) (c : Call) : Type 0 where
  pub price : c.price ≡ ceiling
  pub plans : PlansAbove (problem_of s)
  pub cost : ℕ
  pub least : start_cost s ≡ some cost
  pub above : ceiling ≤ cost
  pub marked : solved (start_cell s c.bytes) ≡ true
  pub complete : Closed (problem_of s) (written (cells_of c.bytes)) (problem_of s).start

-- S8.14, a call that ends none: the price is 1,000,000,001, there is no complete plan, the least cost is none, and the start is marked
pub record NoneAt (s : List ℕ) (c : Call) : Type 0 where
  pub price : c.price ≡ no_plan
  pub no_complete_plan : NoPlan (problem_of s)
  pub least : start_cost s ≡ none
  pub marked : solved (start_cell s c.bytes) ≡ true

-- S8.4, a stopped call: it made exactly as many raises as its budget, the start is open, and the price is a lower bound of the least cost,
-- as that is written
pub record StoppedAt (s : List ℕ) (c : Call) : Type 0 where
  pub spent : c.raises ≡ c.budget
  pub still_open : solved (start_cell s c.bytes) ≡ false
  pub bound : c.price ≤ amount (start_cost s)

-- S8.19, a call with a budget that was not refused: values, marks and chosen checks as it left them, its passes and its raises are those of
-- learning depth-first search, taken in sheet order; and each raise is a change of a value in the history of that work (S6.12)
pub record ByLdfs (s : List ℕ) (budget : ℕ) (c : Call) : Type 0 where
  pub cells : cells_of c.bytes ≡ cells_after (work (problem_of s) (cells_of s) budget)
  pub passes : c.passes ≡ (work (problem_of s) (cells_of s) budget).begun
  pub raises : c.raises ≡ raises_of (work (problem_of s) (cells_of s) budget)
  pub changes : List Change
  pub history : History (problem_of s) (record { cells = cells_of s; raises = 0 }) changes
      (record { cells = cells_of c.bytes; raises = c.raises })
  pub counted : c.raises ≡ length changes

-- Demand 2 (S7, S8.2 to S8.4, S8.14, S8.19), of a call c on the bytes s with a table of so many entries and a budget
pub record Demand2 (s : List ℕ) (entries budget : ℕ) (c : Call) : Type 0 where
  -- S8.19: it is the call that the questions and the procedure give: its number, price, passes and raises, and the bytes that it left
  pub as_defined : c ≡ call_on s entries budget
  pub by_ldfs : 100 ≤ c.number → ByLdfs s budget c
  -- it was refused, with a number below those of the outcomes, exactly where some question is answered no
  pub refused_for : c.number < 100 → (i : ℕ) × (answer_at (questions s entries budget) i ≡ false)
  pub refused_where : (i : ℕ) → answer_at (questions s entries budget) i ≡ false → c.number < 100
  -- what each outcome says (S8.2, S8.3, S8.4, S8.14)
  pub settled : c.number ≡ 100 → SettledAt s c
  pub over : c.number ≡ 101 → OverAt s c
  pub stopped : c.number ≡ 102 → StoppedAt s c
  pub none : c.number ≡ 103 → NoneAt s c
  -- S8.14: and where finished work ends so, by what there is of complete plans
  pub settled_where : 100 ≤ c.number → solved (start_cell s c.bytes) ≡ true → PlanBelow (problem_of s) → c.number ≡ 100
  pub over_where : 100 ≤ c.number → solved (start_cell s c.bytes) ≡ true → PlansAbove (problem_of s) → c.number ≡ 101
  pub none_where : 100 ≤ c.number → solved (start_cell s c.bytes) ≡ true → NoPlan (problem_of s) → c.number ≡ 103
  -- S7.2: the price of a call that was not refused is the value that it left at the start
  pub price_is_value : 100 ≤ c.number → c.price ≡ (start_cell s c.bytes).value
  -- S7.5, S7.3: the budget in the answer is the one that was given, raises do not go beyond it, and passes are at most raises plus 1
  pub given : c.budget ≡ budget
  pub raises_within : c.raises ≤ budget
  pub passes_few : c.passes ≤ suc c.raises

-- Demand 3 (S8.5 to S8.10), of a sheet whose bytes were s at the outset and a list of calls on it, refused ones included; the list may be
-- empty
pub record Demand3 (s : List ℕ) (calls : List Call) : Type 0 where
  -- S8.5: the sheet is still one of the same problem, and accepted
  pub same_problem : problem_of (left s calls) ≡ problem_of s
  pub still_accepted : Accepted (left s calls)
  -- S8.6: each value is at least its first value
  pub not_below_first : (t : ℕ) → value_of (cells_of s) t ≤ value_of (cells_of (left s calls)) t
  -- S8.7: and at most the least cost as it is written, cut to the ceiling or 1,000,000,001 for none
  pub not_above_optimal : (t : ℕ) → value_of (cells_of (left s calls)) t ≤ amount (optimal (problem_of s) t)
  -- S8.8: all raises reported, plus the gaps still left, are at most the gaps at the outset
  pub raises_within_gaps : raises_in calls + gaps (problem_of s) (cells_of (left s calls)) ≤ gaps (problem_of s) (cells_of s)
  -- S8.9: every call that is not refused and leaves the start open has reported exactly its budget in raises
  pub budget_spent : (before rest : List Call) (c : Call) → calls ≡ before ++ c ∷ rest →
      100 ≤ c.number → solved (start_cell s c.bytes) ≡ false → c.raises ≡ c.budget
  -- S8.10: if the start is then settled below the ceiling, its plan is best
  pub best : solved (start_cell s (left s calls)) ≡ true → (start_cell s (left s calls)).value < ceiling →
      Best (problem_of s) (cells_of (left s calls))

-- S8.12, of two limits of stages and a sheet s that the smaller one accepts: what the larger one keeps. The numbers of entries, and the
-- tables, are those of a call under the smaller limit and of one under the larger.
pub record Raised (small large : ℕ) (s : List ℕ) : Type 0 where
  pub still_accepted : accepted_under large s ≡ true
  pub same_answer : (entries entries' budget : ℕ) → small ≤ entries → large ≤ entries' →
      answer_under large s entries' budget ≡ answer_under small s entries budget
  pub same_bytes : (entries entries' budget : ℕ) → small ≤ entries → large ≤ entries' →
      bytes_under large s entries' budget ≡ bytes_under small s entries budget
  -- a table that is longer begins with what the shorter one holds, and has zeros behind it
  pub same_table : (t t' : List ℕ) (budget : ℕ) → small ≤ length t → large ≤ length t' → length t ≤ length t' →
      table_under large s t' budget ≡ table_under small s t budget ++ replicate (length t' - length t) 0

-- S8.13, of a sheet s that was accepted, under a limit of stages, when question 6 asked every sheet for strictly ascending findings: what
-- it keeps. Each call, with any table and any budget, is as the refusal of that time would have it.
pub record Loosened (limit : ℕ) (s : List ℕ) : Type 0 where
  pub still_accepted : accepted_under limit s ≡ true
  pub same_answer : (entries budget : ℕ) →
      answer_under limit s entries budget ≡ answer_given (strict_refusal limit s entries budget) s budget
  pub same_bytes : (entries budget : ℕ) →
      bytes_under limit s entries budget ≡ bytes_given (strict_refusal limit s entries budget) s budget
  pub same_table : (t : List ℕ) (budget : ℕ) →
      table_under limit s t budget ≡ table_given (strict_refusal limit s (length t) budget) s t

-- S8.16, of a sheet s that was accepted, under a limit of stages, when every junction had to have a check: what it keeps. Each call, with
-- any table and any budget, is as the questions and the procedure of that time would have it.
pub record Withdrawn (limit : ℕ) (s : List ℕ) : Type 0 where
  pub still_accepted : accepted_under limit s ≡ true
  pub same_answer : (entries budget : ℕ) → answer_under limit s entries budget ≡ answer_then limit s entries budget
  pub same_bytes : (entries budget : ℕ) → bytes_under limit s entries budget ≡ bytes_then limit s entries budget
  pub same_table : (t : List ℕ) (budget : ℕ) →
      table_under limit s t budget ≡ table_given (checked_refusal limit s (length t) budget) s t
  -- and what it leaves is again such a sheet
  pub again : (entries budget : ℕ) → checked_accepted limit (bytes_under limit s entries budget) ≡ true

-- S8.17, of bytes s without a counted junction, under a limit of stages: what they keep from when every junction was plain. Each call, with
-- any table and any budget, refused or not, is as the refusal of that time would have it.
pub record FormAdded (limit : ℕ) (s : List ℕ) : Type 0 where
  pub same_answer : (entries budget : ℕ) →
      answer_under limit s entries budget ≡ answer_given (plain_refusal limit s entries budget) s budget
  pub same_bytes : (entries budget : ℕ) →
      bytes_under limit s entries budget ≡ bytes_given (plain_refusal limit s entries budget) s budget
  pub same_table : (t : List ℕ) (budget : ℕ) →
      table_under limit s t budget ≡ table_given (plain_refusal limit s (length t) budget) s t
  -- and what it leaves is again such bytes
  pub again : (entries budget : ℕ) → Uncounted (bytes_under limit s entries budget)

-- S8.18: the bytes of the sheet s without the field of check i of junction t
abbrev pub without_check : List ℕ → ℕ → ℕ → List ℕ
without_check s t i =
    let from = action_offset (problem_of s) t i in
    take from s ++ drop (from + action_size (action_at (actions_of (node_at (problem_of s) t)) i)) s

-- of an accepted sheet s: wherever a counted junction loses a check, what is left is refused 10
abbrev pub LossRefused : List ℕ → Type 0
LossRefused s =
    (t i n : ℕ) (acts : List Action) → node_at (problem_of s) t ≡ decision (counted n) acts → i < length acts →
    (entries budget : ℕ) → max_states ≤ entries → refusal (without_check s t i) entries budget ≡ 10
