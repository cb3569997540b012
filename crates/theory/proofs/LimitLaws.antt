-- What rests on the limit of stages. The questions under two limits: where questions 1 and 3 are answered alike, the refusal is the same.
-- And values added up over the stages.
use Prim.Native.Nat.{ℕ, ◌*◌, ◌<◌, ◌≤◌}
use mathlib.Core.Path.{◌≡◌, refl}
use mathlib.Core.Bool.{true}
use mathlib.Core.Logic.{◌⊎◌}
use mathlib.Core.List.{List, [], ◌∷◌, ◌++◌}
use native.Mathlib.Omega.{arith}
use borrow.Author.Tests.{le-leb, lt-leb, eq-eqb, eqb-true}
use Rattle.model.specs.Tests.{fork}
use Rattle.model.specs.Limits.{max_states, ceiling, no_plan, many_raises}
use Rattle.model.specs.Format.{head_tag}
use Rattle.model.specs.Read.{problem_of, cells_of}
use Rattle.model.specs.Questions.{question1, question2, question3, question4, question10, question5, question6, question7, question8}
use Rattle.model.specs.Questions.{question9, question, sheet_questions_under, first_no, refusal_under, accepted_under}
use Rattle.model.proofs.QuestionLaws.{AllYes, none-no, all_yes, first-from}
use Rattle.layout.proofs.Heads.{head-raised}

-- A yes to each question about the sheet alone, by its number, under a limit of stages. What follows names answers so, and the order of
-- the questions stands here alone.
pub record SheetYes (limit : ℕ) (s : List ℕ) : Type 0 where
  pub two : question2 s ≡ true
  pub three : question3 head_tag limit s ≡ true
  pub four : question4 s ≡ true
  pub ten : question10 (problem_of s) ≡ true
  pub five : question5 (problem_of s) (cells_of s) ≡ true
  pub six : question6 (problem_of s) ≡ true
  pub seven : question7 (problem_of s) (cells_of s) ≡ true
  pub eight : question8 (problem_of s) (cells_of s) ≡ true

pub by_number : (limit : ℕ) (s : List ℕ) → AllYes (sheet_questions_under limit s) → SheetYes limit s
by_number limit s (two, (three, (four, (ten, (five, (six, (seven, (eight, _)))))))) =
    record { two = two; three = three; four = four; ten = ten; five = five; six = six; seven = seven; eight = eight }

pub in-turn : (limit : ℕ) (s : List ℕ) → SheetYes limit s → AllYes (sheet_questions_under limit s)
in-turn limit s h =
    (h.two, (h.three, (h.four, (h.ten, (h.five, (h.six, (h.seven, (h.eight, tt))))))))

-- the same answers under another limit, by that of question 3
pub with-head : {limit : ℕ} (other : ℕ) (s : List ℕ) → SheetYes limit s → question3 head_tag other s ≡ true → SheetYes other s
with-head other s h three = record {
  two = h.two;
  three = three;
  four = h.four;
  ten = h.ten;
  five = h.five;
  six = h.six;
  seven = h.seven;
  eight = h.eight;
}

-- a larger limit accepts what a smaller one accepts
pub sheet-raised : {small large : ℕ} → small ≤ large → (s : List ℕ) → SheetYes small s → SheetYes large s
sheet-raised {small} {large} le s h = with-head large s h (head-raised head_tag le s h.three)

pub accepted-yes : (limit : ℕ) (s : List ℕ) → accepted_under limit s ≡ true → SheetYes limit s
unfolding accepted_under
accepted-yes limit s h = by_number limit s (none-no (sheet_questions_under limit s) refl (eqb-true _ _ h))

pub yes-accepted : (limit : ℕ) (s : List ℕ) → SheetYes limit s → accepted_under limit s ≡ true
unfolding accepted_under
yes-accepted limit s h = eq-eqb _ _ (all_yes (sheet_questions_under limit s) (in-turn limit s h))

-- the same refusal, whatever the limits and the numbers of entries are
pub refusal-same : (a b : ℕ) (s : List ℕ) (entries entries' budget : ℕ) → question1 a entries ≡ question1 b entries' →
    question3 head_tag a s ≡ question3 head_tag b s →
    refusal_under a s entries budget ≡ refusal_under b s entries' budget
unfolding refusal_under first_no
refusal-same a b s entries entries' budget one three = rw (one, three)

-- an accepted sheet is refused for its table or its budget only
pub refusals-left : (limit : ℕ) (s : List ℕ) → SheetYes limit s → (entries budget : ℕ) →
    refusal_under limit s entries budget ≡ fork (question1 limit entries) (λ _. fork (question9 budget) (λ _. 0) (λ _. 9)) (λ _. 1)
unfolding refusal_under first_no
refusals-left limit s h entries budget = rw (h.two, h.three, h.four, h.ten, h.five, h.six, h.seven, h.eight)

-- a table that is too short is refused by question 1
pub room-no : (limit : ℕ) (s : List ℕ) (entries budget : ℕ) → entries < limit → refusal_under limit s entries budget ≡ 1
unfolding refusal_under first_no question1
room-no limit s entries budget h = rw (lt-leb limit entries h)

-- with a table that is long enough, question 1 does not refuse
pub room-yes : (limit : ℕ) (s : List ℕ) (entries budget : ℕ) → limit ≤ entries →
    (refusal_under limit s entries budget ≡ 0) ⊎ (2 ≤ refusal_under limit s entries budget)
unfolding refusal_under first_no question1
room-yes limit s entries budget h =
    rw (le-leb limit entries h) (first-from 2 (sheet_questions_under limit s ++ (question 9 (λ _. question9 budget) ∷ [])) refl)

-- S7.3, S8.8: values of 1,000,000,001, one for each of as many stages as a sheet may have, add up to fewer than `many_raises`
pub values-few : (n : ℕ) → n ≤ max_states → n * no_plan < many_raises
unfolding ceiling
values-few n h = omega arith
