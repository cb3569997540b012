-- Calls as they were before a change, under any limit of stages: other questions stand in the places of today's, all others are what they
-- are.
use Rattle.std.specs.Prelude.{ℕ, ◌+◌, ◌≡◌, Bool, true, false, List, [], ◌∷◌, eqb, leb, length}
use Rattle.model.specs.declared.Answer.{Answer}
use Rattle.model.specs.Tests.{fork, also, all}
use Rattle.model.specs.Problem.{Kind, plain, counted, Node, terminal, decision, Problem, value_of}
use Rattle.model.specs.Limits.{max_bytes, ceiling}
use Rattle.model.specs.Format.{write}
use Rattle.model.specs.Read.{problem_of, cells_of}
use Rattle.model.specs.Cost.{cut}
use Rattle.model.specs.QValue.{join}
use Rattle.model.specs.Questions.{every_state, question4, question5, in_order, Question, question, questions_under}
use Rattle.model.specs.Questions.{sheet_questions_under, first_no}
use Rattle.model.specs.Ldfs.{Pricing, Passes, work_by}
use Rattle.model.specs.Report.{cells_after, refused, finished, on_refusal}

-- some questions, with another in the place of the one that has its number
unfoldable pub instead : Question → List Question → List Question
instead other [] = []
instead other (asked ∷ more) = fork (eqb asked.number other.number) (λ _. other) (λ _. asked) ∷ instead other more

-- S8.13: calls as they were when question 6 asked every sheet for strictly ascending findings.
-- question 6 of that time, whatever the sheet's kind: each finding is 1 or more above the one before it
abbrev pub strict_order : List ℕ → Question
strict_order s = question 6 (λ _. in_order 1 (problem_of s))

-- the refusal of a call of that time, 0 where there is none
unfoldable pub strict_refusal : ℕ → List ℕ → ℕ → ℕ → ℕ
strict_refusal limit s entries budget = first_no (instead (strict_order s) (questions_under limit s entries budget))

-- a sheet that was accepted then
unfoldable pub strictly_accepted : ℕ → List ℕ → Bool
strictly_accepted limit s = eqb (first_no (instead (strict_order s) (sheet_questions_under limit s))) 0

-- S8.16: calls as they were when every junction had to have a check, a sheet 20 bytes and no value went above the ceiling.
-- the largest, or the sum, of the values v over some stages
unfoldable pub joined_values : Kind → (ℕ → ℕ) → List ℕ → ℕ
joined_values k v [] = 0
joined_values k v (t ∷ ts) = join k (v t) (joined_values k v ts)

-- the price of a check of that time: its cost plus that, cut to the ceiling
abbrev pub number_price : Pricing
number_price k v a = cut (a.cost + joined_values k v a.successors)

-- questions 2, 4 and 5 of that time; 7 and 8 were put to values that had passed 5, by which a price is the number that it was then
abbrev pub size_then : List ℕ → Question
size_then s = question 2 (λ _. all (leb 20 (length s) ∷ leb (length s) max_bytes ∷ []))

unfoldable pub has_check : Node → Bool
has_check (terminal cost) = true
has_check (decision form acts) = leb 1 (length acts)

abbrev pub fields_then : List ℕ → Question
fields_then s = question 4 (λ _. also (question4 s) (λ _. every_state (problem_of s) (λ t n. has_check n)))

abbrev pub ranges_then : List ℕ → Question
ranges_then s =
    question 5
    (λ _. also (question5 (problem_of s) (cells_of s)) (λ _. every_state (problem_of s) (λ t n. leb (value_of (cells_of s) t) ceiling)))

-- some questions about the sheet s, with those in their places
abbrev pub checked_then : List ℕ → List Question → List Question
checked_then s asked = instead (size_then s) (instead (fields_then s) (instead (ranges_then s) asked))

-- the refusal of a call of that time, 0 where there is none; and a sheet that was accepted then
unfoldable pub checked_refusal : ℕ → List ℕ → ℕ → ℕ → ℕ
checked_refusal limit s entries budget = first_no (checked_then s (questions_under limit s entries budget))

unfoldable pub checked_accepted : ℕ → List ℕ → Bool
checked_accepted limit s = eqb (first_no (checked_then s (sheet_questions_under limit s))) 0

-- the work of that time, and what a call answered and left
abbrev pub work_then : List ℕ → ℕ → Passes
work_then s budget = work_by number_price (problem_of s) (cells_of s) budget

abbrev pub answer_then : ℕ → List ℕ → ℕ → ℕ → Answer
answer_then limit s entries budget =
    on_refusal (checked_refusal limit s entries budget) (λ _. finished (problem_of s) budget (work_then s budget)) (refused budget)

abbrev pub bytes_then : ℕ → List ℕ → ℕ → ℕ → List ℕ
bytes_then limit s entries budget =
    on_refusal (checked_refusal limit s entries budget) (λ _. write (problem_of s) (cells_after (work_then s budget))) (λ _. s)

-- S8.17: calls as they were when question 4 knew plain junctions only, and question 10 was not put.
unfoldable pub is_plain : Node → Bool
is_plain (terminal cost) = true
is_plain (decision plain acts) = true
is_plain (decision (counted n) acts) = false

-- no junction is counted
abbrev pub all_plain : Problem → Bool
all_plain p = every_state p (λ t n. is_plain n)

-- question 4 of that time; and a question that was not put, which is as one that is always answered yes
abbrev pub plain_fields : List ℕ → Question
plain_fields s = question 4 (λ _. also (question4 s) (λ _. all_plain (problem_of s)))

abbrev pub not_put : ℕ → Question
not_put n = question n (λ _. true)

-- the refusal of a call of that time, 0 where there is none
unfoldable pub plain_refusal : ℕ → List ℕ → ℕ → ℕ → ℕ
plain_refusal limit s entries budget = first_no (instead (plain_fields s) (instead (not_put 10) (questions_under limit s entries budget)))

-- bytes that are treated as they were then: out of place for question 4, or in place with no counted junction among them
abbrev pub Uncounted : List ℕ → Type 0
Uncounted s = question4 s ≡ true → all_plain (problem_of s) ≡ true

-- S8.12, S8.13, S8.16, S8.17 together: a sheet that the first version accepted, with 1,024 stages at the most
abbrev pub first_fields : List ℕ → Question
first_fields s = question 4 (λ _. also ((fields_then s).answer tt) (λ _. all_plain (problem_of s)))

abbrev pub first_questions : List ℕ → List Question
first_questions s =
    instead (first_fields s) (instead (not_put 10) (instead (strict_order s) (checked_then s (sheet_questions_under 1024 s))))

unfoldable pub first_accepted : List ℕ → Bool
first_accepted s = eqb (first_no (first_questions s)) 0
