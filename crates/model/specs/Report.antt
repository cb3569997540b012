-- One call on a sheet: bytes, table and budget in; the answer, the bytes and the table after. Refusals included.
use Rattle.std.specs.Prelude.{ℕ, zero, suc, ◌-◌, ◌^◌, List, [], ◌∷◌, ◌++◌, ltb, length, replicate}
use Rattle.model.specs.declared.Outcome.{Outcome}
use Rattle.model.specs.declared.Outcome.TheVariants.{Refused, Settled, Over, Stopped, None}
use Rattle.model.specs.declared.Answer.{Answer}
use Rattle.model.specs.Tests.{fork}
use Rattle.model.specs.Problem.{Problem, Cell, cell_of, solved}
use Rattle.model.specs.Limits.{max_states, ceiling}
use Rattle.model.specs.Format.{write, head_size, offsets_from}
use Rattle.model.specs.Read.{problem_of, cells_of}
use Rattle.model.specs.Questions.{sheet_refusal, refusal_under}
use Rattle.model.specs.Ldfs.{Passes, search_of, work}

-- S7.1: the number of each outcome: a refusal's own, and 100 to 103
abbrev pub number : Outcome → ℕ
number (Refused n) = n
number Settled = 100
number Over = 101
number Stopped = 102
number None = 103

-- an answer in numbers: outcome, price, passes, raises
abbrev pub numbers : Answer → List ℕ
numbers a = number a.outcome ∷ a.price ∷ a.passes ∷ a.raises ∷ []

-- S7.1, of a marked start: settled below the ceiling, none above it, over at it
unfoldable pub outcome_at : ℕ → Outcome
outcome_at value = fork (ltb value ceiling) (λ _. Settled) (λ _. fork (ltb ceiling value) (λ _. None) (λ _. Over))

-- and of an open one: stopped
unfoldable pub outcome_of : Cell → Outcome
outcome_of c = fork (solved c) (λ _. outcome_at c.value) (λ _. Stopped)

-- the cells that work leaves, and the raises that it made
abbrev pub cells_after : Passes → List Cell
cells_after r = (search_of r.ended).cells

abbrev pub raises_of : Passes → ℕ
raises_of r = (search_of r.ended).raises

-- S6.9: the largest budget that a call can be given, a number of 64 bits
abbrev pub largest : ℕ
largest = 2 ^ 64 - 1

-- S5.2, S7.2: the answer to a call with a budget that is refused by a question's number, and to one that has worked
abbrev pub refused : ℕ → ℕ → Answer
refused budget n = record { outcome = Refused n; price = 0; passes = 0; raises = 0; budget = budget }

abbrev pub finished : Problem → ℕ → Passes → Answer
finished p budget r =
    record {
      outcome = outcome_of (cell_of (cells_after r) p.start);
      price = (cell_of (cells_after r) p.start).value;
      passes = r.begun;
      raises = raises_of r;
      budget = budget;
    }

-- what follows where nothing is refused, and where a question is answered no, by its number
unfoldable pub on_refusal : {A : Type 0} → ℕ → (Unit {0} → A) → (ℕ → A) → A
on_refusal zero f g = f tt
on_refusal (suc n) f g = g (suc n)

-- the answer to a call on the sheet s with a budget, given the number of the question that refuses it, 0 for none
abbrev pub answer_given : ℕ → List ℕ → ℕ → Answer
answer_given n s budget = on_refusal n (λ _. finished (problem_of s) budget (work (problem_of s) (cells_of s) budget)) (refused budget)

-- S5.3, S7.4: the sheet's bytes after it: unchanged when refused, else values, marks and chosen checks as work left them
abbrev pub bytes_given : ℕ → List ℕ → ℕ → List ℕ
bytes_given n s budget = on_refusal n (λ _. write (problem_of s) (cells_after (work (problem_of s) (cells_of s) budget))) (λ _. s)

-- both, of a call with a table of so many entries, under a limit of stages
unfoldable pub answer_under : ℕ → List ℕ → ℕ → ℕ → Answer
answer_under limit s entries budget = answer_given (refusal_under limit s entries budget) s budget

unfoldable pub bytes_under : ℕ → List ℕ → ℕ → ℕ → List ℕ
bytes_under limit s entries budget = bytes_given (refusal_under limit s entries budget) s budget

-- the same under the limit of S4.1 and S4.3: what a call answers and leaves
abbrev pub answer_to : List ℕ → ℕ → ℕ → Answer
answer_to = answer_under max_states

abbrev pub bytes_after : List ℕ → ℕ → ℕ → List ℕ
bytes_after = bytes_under max_states

-- the answer in numbers
unfoldable pub report : List ℕ → ℕ → ℕ → List ℕ
report s entries budget = numbers (answer_to s entries budget)

-- S3.5: an index table of so many entries: entry i is the offset of stage i's field, and every entry past the last stage is 0
unfoldable pub index_table : Problem → ℕ → List ℕ
index_table p entries = offsets_from head_size p.nodes ++ replicate (entries - length p.nodes) 0

-- S5.4, S5.5: a refused call's table: number 1 leaves it unchanged, every later one leaves every entry 0
unfoldable pub refused_table : List ℕ → ℕ → List ℕ
refused_table t zero = t
refused_table t (suc zero) = t
refused_table t (suc (suc n)) = replicate (length t) 0

-- the content of the table t afterwards, given the number of the question that refuses the sheet s or the call, 0 for none
abbrev pub table_given : ℕ → List ℕ → List ℕ → List ℕ
table_given n s t = on_refusal n (λ _. index_table (problem_of s) (length t)) (refused_table t)

-- the table's content once every question but that on the budget has been put
unfoldable pub checked_table : List ℕ → List ℕ → List ℕ
checked_table s t = table_given (sheet_refusal s (length t)) s t

-- the table's content after the call, under a limit of stages, and under that of S4.1 and S4.3
unfoldable pub table_under : ℕ → List ℕ → List ℕ → ℕ → List ℕ
table_under limit s t budget = table_given (refusal_under limit s (length t) budget) s t

abbrev pub table_after : List ℕ → List ℕ → ℕ → List ℕ
table_after = table_under max_states
