-- The verdict on a sheet and its number: 0 where no question is answered no, and else the number of the first that is.
use Rattle.std.specs.Prelude.{ℕ, zero, suc, ◌≡◌, true, List, Result, Ok, Err}
use Rattle.model.specs.Questions.{answer_at, First, check_questions}

-- the number of each case
abbrev pub verdict_number : Result (Unit {0}) ℕ → ℕ
verdict_number (Ok _) = 0
verdict_number (Err n) = n

-- the case of each number
unfoldable pub verdict : ℕ → Result (Unit {0}) ℕ
verdict zero = Ok tt
verdict (suc n) = Err (suc n)

-- What a verdict of that number says of all questions but that on the budget: accepted, 0, that every answer is yes; else the number of
-- the first that is no.
pub data VerdictSays (s : List ℕ) (entries : ℕ) (n : ℕ) : Type 0 where
  accepted : ((i : ℕ) → answer_at (check_questions s entries) i ≡ true) → n ≡ 0 → VerdictSays s entries n
  refused : First (check_questions s entries) n → VerdictSays s entries n
