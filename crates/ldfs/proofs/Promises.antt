-- The promises of the code, in one place: the verdict of `check`, and the demands of calls of `solve`.
use Prim.Native.Nat.{ℕ, zero, suc, ◌<◌}
use mathlib.Core.Path.{◌≡◌, refl}
use mathlib.Core.Bool.{true}
use mathlib.Core.List.{List}
use lib.ListN.{length}
use Rattle.model.specs.declared.Answer.{Answer}
use Rattle.model.specs.Problem.{solved}
use Rattle.model.specs.Format.{Bytes}
use Rattle.model.specs.Read.{problem_of, cells_of}
use Rattle.model.specs.Optimal.{gaps}
use Rattle.model.specs.Questions.{check_questions, sheet_refusal, sheet_refusal_under}
use Rattle.model.specs.Limits.{many_raises}
use Rattle.model.specs.Calls.{Call, call_of, call_on, Calls, none as no_call, left, raises_in, budgets_in}
use Rattle.model.specs.Demands.{Accepted, start_cell, Demand1, Demand2, Demand3}
use Rattle.theory.proofs.Refusals.{first-is, none_is}
use Rattle.theory.proofs.Called.{made-call}
use Rattle.theory.proofs.Demands.{demand1, demand2, demand3, all-raises-few, work-ends}
use Rattle.std.proofs.Common.{Result}
use Rattle.questions.specs.Verdicts.{verdict_number, verdict, VerdictSays, accepted, refused}
use Rattle.questions.proofs.Asking.{verdict-number}
use Rattle.ldfs.specs.Made.{Solved, SolvedAll, none, one}

-- The verdict of `check`, by what its contract ensures, in the numbers of S4.
pub check-answers : (s : List ℕ) (entries : ℕ) {v : Result (Unit {0}) ℕ} → v ≡ verdict (sheet_refusal s entries) →
    VerdictSays s entries (verdict_number v)
unfolding sheet_refusal_under
check-answers s entries e = rw (e, verdict-number) (go (sheet_refusal s entries) refl)
  where
    go : (n : ℕ) → sheet_refusal s entries ≡ n → VerdictSays s entries n
    go zero z = accepted (none_is (check_questions s entries) refl z) refl
    go (suc k) z = refused (first-is (check_questions s entries) k z)

-- One call, on the bytes s with the table t and a budget, that returned r and left the bytes s' and the table t'.
module _ (s t : List ℕ) (budget : ℕ) {s' t' : List ℕ} {r : Answer} (m : Solved s t budget r s' t') where
  -- as its caller sees it, it is what the questions and the procedure give
  pub solved-call : call_of r s' ≡ call_on s (length t) budget
  solved-call = rw (m.0, m.1.0)

  -- Demand 1
  pub solve-answers : Demand1 s (length t) budget (call_of r s')
  solve-answers = rw solved-call (demand1 s (length t) budget)

  -- Demand 2
  pub solve-prices : Bytes s → Demand2 s (length t) budget (call_of r s')
  solve-prices bytes = rw solved-call (demand2 s bytes (length t) budget)

-- Demand 3, of any calls on an accepted sheet
solved-calls : {s : List ℕ} {calls : List Call} → SolvedAll s calls → Calls s calls
solved-calls none = no_call
solved-calls (one t budget m rest) = made-call (length t) budget (solved-call _ t budget m) (solved-calls rest)

pub solve-keeps : {s : List ℕ} {calls : List Call} → Accepted s → SolvedAll s calls → Demand3 s calls
solve-keeps acc made = demand3 acc (solved-calls made)

-- S8.8: they make few raises
pub solve-raises-few : {s : List ℕ} {calls : List Call} → Accepted s → SolvedAll s calls → raises_in calls < many_raises
solve-raises-few acc made = all-raises-few acc (solved-calls made)

-- S8.11: budgets above the gaps at the outset leave the start settled
pub solve-ends : {s : List ℕ} {calls : List Call} → Accepted s → SolvedAll s calls →
    gaps (problem_of s) (cells_of s) < budgets_in calls →
    solved (start_cell s (left s calls)) ≡ true
solve-ends acc made = work-ends acc (solved-calls made)
