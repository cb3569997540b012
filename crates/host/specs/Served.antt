-- What the host's call asks of the index table that it works on, and what such a call gives: for the contracts of private functions.
use Rattle.std.specs.Prelude.{ℕ, ◌-◌, ◌≤◌, ◌≡◌, List, ◌++◌, length, replicate}
use Rattle.model.specs.declared.Answer.{Answer}
use Rattle.model.specs.Limits.{max_states}
use Rattle.model.specs.Format.{head_tag}
use Rattle.model.specs.Questions.{question3}
use Rattle.model.specs.Report.{answer_to, bytes_after, table_after}
use Rattle.host.specs.Host.{entries, as_bytes}

-- a table's content filled up with zeros to n entries
abbrev pub filled_up : List ℕ → ℕ → List ℕ
filled_up t n = t ++ replicate (n - length t) 0

-- a sheet of no more states than this has few
abbrev pub few_states : ℕ
few_states = 256

-- an index table of n zeros serves the sheet s: with its number of entries for the limit of states, question 3 has the answer that it has
-- under `max_states`. The host's table t is long enough.
pub record Serves (n : ℕ) (s t : List ℕ) : Type 0 where
  pub most : n ≤ max_states
  pub head : question3 head_tag n s ≡ question3 head_tag max_states s
  pub room : max_states ≤ entries t

-- a call on the sheet s with the host's table t, which is long enough, and a budget: it answered a, and left s' and t'
pub record Worked (s t : List ℕ) (budget : ℕ) (a : Answer) (s' t' : List ℕ) : Type 0 where
  pub answer : a ≡ answer_to s (entries t) budget
  pub sheet : s' ≡ bytes_after s (entries t) budget
  pub table : t' ≡ as_bytes (table_after s (replicate (entries t) 0) budget) t
