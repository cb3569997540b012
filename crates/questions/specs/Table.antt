-- The limit of states that an index table serves, and the table once the questions have been put under it.
use Rattle.std.specs.Prelude.{ℕ, min, List, ◌++◌, length, drop}
use Rattle.model.specs.Problem.{states}
use Rattle.model.specs.Limits.{max_states}
use Rattle.model.specs.Format.{head_size, offsets_from}
use Rattle.model.specs.Read.{problem_of}
use Rattle.model.specs.Questions.{sheet_refusal_under}
use Rattle.model.specs.Report.{on_refusal, refused_table}

-- the table t once the offsets of the states of s are its first entries
abbrev pub indexed_before : List ℕ → List ℕ → List ℕ
indexed_before s t = offsets_from head_size (problem_of s).nodes ++ drop (states (problem_of s)) t

-- the limit of states that a table of so many entries serves: as many states as it has entries, and never more than `max_states`. With it
-- question 1 is answered yes, and a table of `max_states` entries or more serves every sheet.
abbrev pub served_by : ℕ → ℕ
served_by entries = min entries max_states

-- the refusal of the sheet s under the limit that the table t serves
abbrev pub served_refusal : List ℕ → List ℕ → ℕ
served_refusal s t = sheet_refusal_under (served_by (length t)) s (length t)

-- the table's content once the questions about the sheet s have been put under that limit, but for the clearing past the last state
unfoldable pub asked_table : List ℕ → List ℕ → List ℕ
asked_table s t = on_refusal (served_refusal s t) (λ _. indexed_before s t) (refused_table t)
