-- S4: the questions put to a sheet, in its words; S5.1: the refusal is the number of the first whose answer is no.
use Rattle.std.specs.Prelude.{ℕ, ◌+◌, ◌<◌, ◌≡◌, Bool, true, false, List, [], ◌∷◌, ◌++◌, length, get_or, drop, eqb, leb, ltb}
use Rattle.model.specs.Tests.{fork, also, all, every}
use Rattle.model.specs.Problem.{Kind, worst, whole, Action, Form, plain, counted, Node, terminal, decision, Problem, Cell}
use Rattle.model.specs.Problem.{states, node_at, action_at, cell_of, value_of, solved}
use Rattle.model.specs.Limits.{max_states, min_bytes, max_bytes, max_cost, no_plan}
use Rattle.model.specs.Format.{be16, head_tag, head_length, kind_in, states_in, start_in, head_size}
use Rattle.model.specs.Read.{tag, content_length, nodes_good, problem_of, cells_of}
use Rattle.model.specs.QValue.{q}

-- every stage of a problem passes
abbrev pub every_state : Problem → (ℕ → Node → Bool) → Bool
every_state p f = every (states p) (λ s. f s (node_at p s))

-- every check of a junction passes
abbrev pub every_action : List Action → (Action → Bool) → Bool
every_action acts f = every (length acts) (λ i. f (action_at acts i))

-- Questions 1 and 3 have the limit of stages as an argument, so that a call under another limit can be spoken of (S8.12); it is
-- 4,096, `max_states`, where no other is named.
-- S4.1, room: has the index table as many entries as that, or more?
unfoldable pub question1 : ℕ → ℕ → Bool
question1 limit entries = leb limit entries

-- S4.2, size: has the sheet 17 to 60,000 bytes?
unfoldable pub question2 : List ℕ → Bool
question2 s = all (leb min_bytes (length s) ∷ leb (length s) max_bytes ∷ [])

-- S4.3, head: does it begin with a head of the tag that is wanted, whose kind is 0 or 1, stages 1 to the limit, start below that number?
unfoldable pub question3 : ℕ → ℕ → List ℕ → Bool
question3 wanted limit s =
    all (
    eqb (tag s) wanted ∷ eqb (content_length s) head_length ∷ leb head_size (length s) ∷ leb (get_or s kind_in 0) 1
    ∷ leb 1 (be16 s states_in) ∷ leb (be16 s states_in) limit ∷ ltb (be16 s start_in) (be16 s states_in) ∷ []
    )

-- S4.4, fields: is the remainder exactly those stages, in the order and lengths of the format?
unfoldable pub question4 : List ℕ → Bool
question4 s = nodes_good (be16 s states_in) (drop head_size s)

-- S4.10, count: is the number that each counted junction writes the number of checks that follow it?
-- is n the number that is written in a form? In a plain one there is none to be wrong
unfoldable pub count_is : Form → ℕ → Bool
count_is plain n = true
count_is (counted m) n = eqb m n

unfoldable pub count_right : Node → Bool
count_right (terminal cost) = true
count_right (decision form acts) = count_is form (length acts)

unfoldable pub question10 : Problem → Bool
question10 p = every_state p (λ s n. count_right n)

-- S4.5, ranges: are check costs 1 to 1,000,000, ending costs 0 to 1,000,000, values 0 to 1,000,000,001, marks 0 or 1, chosen checks 0
-- at open junctions and at those without checks, and below the junction's number of checks at settled ones that have some?
unfoldable pub costs_in_range : Node → Bool
costs_in_range (terminal cost) = leb cost max_cost
costs_in_range (decision form acts) = every_action acts (λ a. all (leb 1 a.cost ∷ leb a.cost max_cost ∷ []))

unfoldable pub chosen_in_range : Node → Cell → Bool
chosen_in_range (terminal cost) c = true
chosen_in_range (decision form []) c = eqb c.chosen 0
chosen_in_range (decision form (a ∷ more)) c = fork (solved c) (λ _. ltb c.chosen (length (a ∷ more))) (λ _. eqb c.chosen 0)

unfoldable pub cell_in_range : Node → Cell → Bool
cell_in_range n c = all (leb c.value no_plan ∷ leb c.mark 1 ∷ chosen_in_range n c ∷ [])

unfoldable pub question5 : Problem → List Cell → Bool
question5 p cells = every_state p (λ s n. all (costs_in_range n ∷ cell_in_range n (cell_of cells s) ∷ []))

-- S4.6, findings: are a check's findings above the number of its own junction, below the number of stages, and ascending: strictly on a
-- worst sheet, and on a whole sheet so that equal ones may stand side by side?
-- how far a finding is above the one before it, at the least
unfoldable pub apart : Kind → ℕ
apart worst = 1
apart whole = 0

-- `ascending d low n ts`: the first is low or more, each is d or more above the one before it, all are below n
unfoldable pub ascending : ℕ → ℕ → ℕ → List ℕ → Bool
ascending d low n [] = true
ascending d low n (t ∷ ts) = also (all (leb low t ∷ ltb t n ∷ [])) (λ _. ascending d (t + d) n ts)

-- `successors_in_order d low n`, of a stage: the findings of each of its checks so
unfoldable pub successors_in_order : ℕ → ℕ → ℕ → Node → Bool
successors_in_order d low n (terminal cost) = true
successors_in_order d low n (decision form acts) = every_action acts (λ a. ascending d low n a.successors)

-- the findings of every check in order, above their junction, each d or more above the one before it
abbrev pub in_order : ℕ → Problem → Bool
in_order d p = every_state p (λ s. successors_in_order d (s + 1) (states p))

unfoldable pub question6 : Problem → Bool
question6 p = in_order (apart p.kind) p

-- the same of a draft, whose findings may lie anywhere: without the part on their junction's number (S13.8)
unfoldable pub question6_draft : Problem → Bool
question6_draft p = every_state p (λ s. successors_in_order (apart p.kind) 0 (states p))

-- S4.7, values: is each ending's value at most its cost, and each junction's value at most the price of each of its checks?
unfoldable pub value_under : Problem → List Cell → ℕ → Node → Bool
value_under p cells s (terminal cost) = leb (value_of cells s) cost
value_under p cells s (decision form acts) = every_action acts (λ a. leb (value_of cells s) (q p.kind (value_of cells) a))

unfoldable pub question7 : Problem → List Cell → Bool
question7 p cells = every_state p (value_under p cells)

-- S4.8, marks: has each settled ending a value equal to its cost, each settled junction without checks the value 1,000,000,001, and each
-- other settled junction a value equal to the price of its chosen check, with all that check's findings settled?
unfoldable pub all_solved : List Cell → List ℕ → Bool
all_solved cells [] = true
all_solved cells (t ∷ ts) = also (solved (cell_of cells t)) (λ _. all_solved cells ts)

unfoldable pub passed_by : Problem → List Cell → ℕ → Action → Bool
passed_by p cells s a = all (eqb (value_of cells s) (q p.kind (value_of cells) a) ∷ all_solved cells a.successors ∷ [])

unfoldable pub mark_earned : Problem → List Cell → ℕ → Node → Bool
mark_earned p cells s (terminal cost) = eqb (value_of cells s) cost
mark_earned p cells s (decision form []) = eqb (value_of cells s) no_plan
mark_earned p cells s (decision form (a ∷ more)) = passed_by p cells s (action_at (a ∷ more) (cell_of cells s).chosen)

unfoldable pub question8 : Problem → List Cell → Bool
question8 p cells = every_state p (λ s n. fork (solved (cell_of cells s)) (λ _. mark_earned p cells s n) (λ _. true))

-- S4.9, budget: is the budget at least 1?
unfoldable pub question9 : ℕ → Bool
question9 budget = leb 1 budget

-- a question and its number; it waits until it is put, when those before it have been settled for the whole sheet (S5.1)
pub record Question : Type 0 where
  pub number : ℕ
  pub answer : Unit {0} → Bool

abbrev pub question : ℕ → (Unit {0} → Bool) → Question
question n f = record { number = n; answer = f }

-- questions 5 and 6, of which 6 is as it is given, and 7 and 8: they are put to a sheet whose fields are in place, stage by stage
abbrev pub finding_questions : Problem → List Cell → (Unit {0} → Bool) → List Question
finding_questions p cells six = question 5 (λ _. question5 p cells) ∷ question 6 six ∷ []

abbrev pub mark_questions : Problem → List Cell → List Question
mark_questions p cells = question 7 (λ _. question7 p cells) ∷ question 8 (λ _. question8 p cells) ∷ []

abbrev pub state_questions : Problem → List Cell → List Question
state_questions p cells = finding_questions p cells (λ _. question6 p) ++ mark_questions p cells

-- questions 2 to 4 and 10, which are about the sheet's fields, by the tag that is wanted of its head and a limit of stages
abbrev pub field_questions : ℕ → ℕ → List ℕ → List Question
field_questions wanted limit s =
    question 2 (λ _. question2 s)
    ∷ question 3 (λ _. question3 wanted limit s)
    ∷ question 4 (λ _. question4 s)
    ∷ question 10 (λ _. question10 (problem_of s))
    ∷ []

-- these of an ordinary sheet and 5 to 8, which are about the sheet alone, in the order in which they are put, under a limit of stages
abbrev pub sheet_questions_under : ℕ → List ℕ → List Question
sheet_questions_under limit s = field_questions head_tag limit s ++ state_questions (problem_of s) (cells_of s)

-- question 1 and these, of a sheet with a table of so many entries
abbrev pub check_questions_under : ℕ → List ℕ → ℕ → List Question
check_questions_under limit s entries = question 1 (λ _. question1 limit entries) ∷ sheet_questions_under limit s

-- the ten questions of a call with a budget, in the order in which they are put
abbrev pub questions_under : ℕ → List ℕ → ℕ → ℕ → List Question
questions_under limit s entries budget = check_questions_under limit s entries ++ (question 9 (λ _. question9 budget) ∷ [])

-- the same under the limit of S4.1 and S4.3: those that every call puts
abbrev pub sheet_questions : List ℕ → List Question
sheet_questions = sheet_questions_under max_states

abbrev pub check_questions : List ℕ → ℕ → List Question
check_questions = check_questions_under max_states

abbrev pub questions : List ℕ → ℕ → ℕ → List Question
questions = questions_under max_states

-- S5.1: the number of the first of some questions whose answer is no; 0 where there is none
unfoldable pub first_no : List Question → ℕ
first_no [] = 0
first_no (asked ∷ more) = fork (asked.answer tt) (λ _. first_no more) (λ _. asked.number)

-- under a limit of stages, the refusal of a sheet with a table of so many entries, by all questions but the last, on the budget; 0 where
-- there is none
unfoldable pub sheet_refusal_under : ℕ → List ℕ → ℕ → ℕ
sheet_refusal_under limit s entries = first_no (check_questions_under limit s entries)

-- the refusal of a call on a sheet, with a table of so many entries and a budget; 0 where there is none
unfoldable pub refusal_under : ℕ → List ℕ → ℕ → ℕ → ℕ
refusal_under limit s entries budget = first_no (questions_under limit s entries budget)

-- an accepted sheet (S8): a yes to every question but those on the table and the budget
unfoldable pub accepted_under : ℕ → List ℕ → Bool
accepted_under limit s = eqb (first_no (sheet_questions_under limit s)) 0

-- the same under the limit of S4.1 and S4.3
abbrev pub sheet_refusal : List ℕ → ℕ → ℕ
sheet_refusal = sheet_refusal_under max_states

abbrev pub refusal : List ℕ → ℕ → ℕ → ℕ
refusal = refusal_under max_states

abbrev pub accepted : List ℕ → Bool
accepted = accepted_under max_states

-- the question of a list that stands behind i others, and its answer; past the end, one that is answered yes
abbrev pub question_at : List Question → ℕ → Question
question_at asked i = get_or asked i (question 0 (λ _. true))

abbrev pub answer_at : List Question → ℕ → Bool
answer_at asked i = (question_at asked i).answer tt

-- what `first_no` says in words: question number k is the first of a list whose answer is no. It stands behind some others, and each of
-- those is answered yes.
pub record First (asked : List Question) (k : ℕ) : Type 0 where
  pub behind : ℕ
  pub number : (question_at asked behind).number ≡ k
  pub no : answer_at asked behind ≡ false
  pub yes_before : (j : ℕ) → j < behind → answer_at asked j ≡ true
