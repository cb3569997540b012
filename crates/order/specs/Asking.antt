-- S13.7 to S13.10: the questions that the rearranger and its inverse put, in the order in which they are put, and what each leaves in what
-- it is lent.
use Rattle.std.specs.Prelude.{ℕ, ◌-◌, Bool, List, [], ◌∷◌, ◌++◌, length, take, drop, replicate, eqb, leb}
use Rattle.model.specs.Tests.{all}
use Rattle.model.specs.Limits.{max_states}
use Rattle.model.specs.Problem.{Problem, Cell, states}
use Rattle.model.specs.Format.{head_tag, draft_tag, write}
use Rattle.model.specs.Read.{problem_of, cells_of}
use Rattle.model.specs.Questions.{question6, question6_draft, Question, question, finding_questions}
use Rattle.model.specs.Questions.{mark_questions, field_questions, first_no}
use Rattle.model.specs.Report.{on_refusal, table_given}
use Rattle.order.specs.Order.{order, lists}
use Rattle.order.specs.Moved.{rearranged, rearranged_cells, restored, restored_cells}

-- S4.1, room: have the index table and the list 4,096 entries or more, and the output as many bytes as the sheet?
unfoldable pub question1_lent : List ℕ → ℕ → ℕ → ℕ → Bool
question1_lent s entries output listed = all (leb max_states entries ∷ leb (length s) output ∷ leb max_states listed ∷ [])

-- S4.11, circle, of the rearranger: could every stage be placed? Of the inverse: is every stage number among the list's entries, as many as
-- there are stages?
unfoldable pub question11 : Problem → Bool
question11 p = eqb (length (order p)) (states p)

unfoldable pub question11_back : Problem → List ℕ → Bool
question11_back p list = lists (states p) (take (states p) list)

-- questions 5, 6, 11, 7 and 8, of a sheet whose fields are in place, with 6 and 11 as they are given
abbrev pub turn_states : Problem → List Cell → (Unit {0} → Bool) → (Unit {0} → Bool) → List Question
turn_states p cells six eleven = finding_questions p cells six ++ (question 11 eleven ∷ mark_questions p cells)

-- questions 2 to 4 and 10, by the tag that is wanted of the head, and these
abbrev pub turn_questions : ℕ → List ℕ → (Unit {0} → Bool) → (Unit {0} → Bool) → List Question
turn_questions wanted s six eleven = field_questions wanted max_states s ++ turn_states (problem_of s) (cells_of s) six eleven

-- those that the rearranger puts before question 11
abbrev pub before_circle : List ℕ → ℕ → ℕ → ℕ → List Question
before_circle s entries output listed =
    question 1 (λ _. question1_lent s entries output listed)
    ∷ field_questions draft_tag max_states s
    ++ finding_questions (problem_of s) (cells_of s) (λ _. question6_draft (problem_of s))

-- the questions about a draft, and about an ordinary sheet with a list of old numbers
abbrev pub draft_questions : List ℕ → List Question
draft_questions s = turn_questions draft_tag s (λ _. question6_draft (problem_of s)) (λ _. question11 (problem_of s))

abbrev pub back_questions : List ℕ → List ℕ → List Question
back_questions s list = turn_questions head_tag s (λ _. question6 (problem_of s)) (λ _. question11_back (problem_of s) list)

-- The refusal of a call of each, 0 where there is none: of the sheet s, with a table and a list of so many entries and so many bytes of
-- output.
unfoldable pub rearrange_refusal : List ℕ → ℕ → ℕ → ℕ → ℕ
rearrange_refusal s entries output listed = first_no (question 1 (λ _. question1_lent s entries output listed) ∷ draft_questions s)

unfoldable pub restore_refusal : List ℕ → ℕ → List ℕ → ℕ → ℕ
restore_refusal s entries list output = first_no (question 1 (λ _. question1_lent s entries output (length list)) ∷ back_questions s list)

-- the new sheet, and the draft again, as bytes
abbrev pub rearranged_bytes : List ℕ → List ℕ
rearranged_bytes s = write (rearranged (problem_of s)) (rearranged_cells (problem_of s) (cells_of s))

abbrev pub restored_bytes : List ℕ → List ℕ → List ℕ
restored_bytes s list =
    let old = take (states (problem_of s)) list in write (restored old (problem_of s)) (restored_cells old (cells_of s))

-- S13.9, S13.10: what a call leaves, given the number of the question that refuses it, 0 for none: the output, of which what is past the
-- sheet stays; the list, whose entries past the stages become 0; a refusal alters neither.
abbrev pub output_given : ℕ → List ℕ → List ℕ → List ℕ
output_given n made output = on_refusal n (λ _. made ++ drop (length made) output) (λ _. output)

abbrev pub list_given : ℕ → List ℕ → List ℕ → List ℕ
list_given n s list = on_refusal n (λ _. order (problem_of s) ++ replicate (length list - states (problem_of s)) 0) (λ _. list)

-- the output, the list and the table after a call of the rearranger with the table, output and list t, o and l
unfoldable pub rearranged_output : List ℕ → List ℕ → List ℕ → List ℕ → List ℕ
rearranged_output s t o l = output_given (rearrange_refusal s (length t) (length o) (length l)) (rearranged_bytes s) o

unfoldable pub rearranged_list : List ℕ → List ℕ → List ℕ → List ℕ → List ℕ
rearranged_list s t o l = list_given (rearrange_refusal s (length t) (length o) (length l)) s l

unfoldable pub rearranged_table : List ℕ → List ℕ → List ℕ → List ℕ → List ℕ
rearranged_table s t o l = table_given (rearrange_refusal s (length t) (length o) (length l)) s t

-- the output and the table after a call of the inverse with the table, list and output t, l and o
unfoldable pub restored_output : List ℕ → List ℕ → List ℕ → List ℕ → List ℕ
restored_output s t l o = output_given (restore_refusal s (length t) l (length o)) (restored_bytes s l) o

unfoldable pub restored_table : List ℕ → List ℕ → List ℕ → List ℕ → List ℕ
restored_table s t l o = table_given (restore_refusal s (length t) l (length o)) s t
