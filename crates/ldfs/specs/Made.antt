-- What the contracts of a call say, and calls of `solve` by what its contract ensures: its answers and the bytes that it left, one call
-- after the other.
use Rattle.std.specs.Prelude.{ℕ, ◌≡◌, List, [], ◌∷◌, length}
use Rattle.model.specs.declared.Answer.{Answer}
use Rattle.model.specs.Format.{write}
use Rattle.model.specs.Read.{problem_of, cells_of}
use Rattle.model.specs.Questions.{refusal_under}
use Rattle.model.specs.Ldfs.{work}
use Rattle.model.specs.Limits.{max_states}
use Rattle.model.specs.Report.{cells_after, finished, on_refusal, refused_table, answer_under, bytes_under, table_under}
use Rattle.model.specs.Calls.{Call, call_of}
use Rattle.questions.specs.Table.{indexed_before, served_by}

-- the bytes s' and the answer r are the work of a call on the sheet s
pub record Finished (s s' : List ℕ) (r : Answer) (budget : ℕ) : Type 0 where
  pub bytes : s' ≡ write (problem_of s) (cells_after (work (problem_of s) (cells_of s) budget))
  pub said : r ≡ finished (problem_of s) budget (work (problem_of s) (cells_of s) budget)

-- what `solve_zeroed` answers, and the bytes that it leaves: those of a call under the limit of states that the table serves
abbrev pub served_answer : List ℕ → List ℕ → ℕ → Answer
served_answer s t budget = answer_under (served_by (length t)) s (length t) budget

abbrev pub served_bytes : List ℕ → List ℕ → ℕ → List ℕ
served_bytes s t budget = bytes_under (served_by (length t)) s (length t) budget

-- the table's content after it: what stood past an accepted sheet's last state stays there
unfoldable pub filled_table : List ℕ → List ℕ → ℕ → List ℕ
filled_table s t budget = on_refusal (refusal_under (served_by (length t)) s (length t) budget) (λ _. indexed_before s t) (refused_table t)

-- `solve_zeroed`'s contract, clause by clause: called on the bytes s and the table t, it returned r and left s' and t'
abbrev pub Filled : List ℕ → List ℕ → ℕ → Answer → List ℕ → List ℕ → Type 0
Filled s t budget r s' t' = (r ≡ served_answer s t budget) × ((s' ≡ served_bytes s t budget) × (t' ≡ filled_table s t budget))

-- a call under a limit of states; and `solve`'s contract, which is that of one under the limit of all sheets
abbrev pub SolvedUnder : ℕ → List ℕ → List ℕ → ℕ → Answer → List ℕ → List ℕ → Type 0
SolvedUnder limit s t budget r s' t' =
    (r ≡ answer_under limit s (length t) budget)
    × ((s' ≡ bytes_under limit s (length t) budget) × (t' ≡ table_under limit s t budget))

abbrev pub Solved : List ℕ → List ℕ → ℕ → Answer → List ℕ → List ℕ → Type 0
Solved = SolvedUnder max_states

-- calls on the bytes s, with any tables and budgets, each on the bytes that the one before it left
pub data SolvedAll : List ℕ → List Call → Type 0 where
  none : {s : List ℕ} → SolvedAll s []
  one : {s s' t' : List ℕ} {r : Answer} {more : List Call} (t : List ℕ) (budget : ℕ) →
      Solved s t budget r s' t' → SolvedAll s' more → SolvedAll s (call_of r s' ∷ more)
