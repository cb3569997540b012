-- The first question whose answer is no, one question after the other; and what a sheet in place gives the questions that follow.
use Prim.Native.Nat.{ℕ, zero, suc, ◌-◌, ◌<◌, ◌≤◌}
use mathlib.Core.Path.{◌≡◌, refl, sym, ap, ◌∙◌}
use mathlib.Core.Bool.{Bool, true, false}
use mathlib.Core.List.{List, [], ◌∷◌, ◌++◌}
use mathlib.Core.Logic.{◌⊎◌, inl, inr, ⊎_elim}
use native.Mathlib.Omega.{arith}
use borrow.Author.Tests.{le-leb, lt-leb, leb-true}
use lib.ListN.{length, get_or, drop, replicate, length-replicate}
use Rattle.model.specs.Tests.{all, every}
use Rattle.model.specs.Problem.{Node, terminal, Problem, Cell, states, node_at, cell_of}
use Rattle.model.specs.Format.{Bytes, be16, offsets_from}
use Rattle.model.specs.Read.{nodes_good, nodes_read, problem_of}
use Rattle.model.specs.Limits.{max_states, min_bytes, max_bytes}
use Rattle.model.specs.Questions.{question1, question2, question3, question4, count_right, question10}
use Rattle.model.specs.Questions.{question5, question6, question6_draft, question7, question8, Question, question, finding_questions}
use Rattle.model.specs.Questions.{apart, successors_in_order, value_under}
use Rattle.model.specs.Questions.{mark_questions, field_questions, sheet_questions_under, first_no}
use Rattle.model.specs.Questions.{sheet_refusal, sheet_refusal_under}
use Rattle.model.proofs.TestLaws.{never, all_true, every_first}
use Rattle.model.proofs.QuestionLaws.{numbered, first-from, none-no, joined-no, joined-yes}
use Rattle.model.specs.Report.{on_refusal, index_table, refused_table, checked_table}
use Rattle.layout.specs.Shape.{Inside}
use Rattle.layout.proofs.Shapes.{six-inside, draft-inside}
use Rattle.layout.proofs.Heads.{head-says, head-raised}
use Rattle.layout.proofs.Same.{read-writes, read-shaped}
use Rattle.layout.proofs.Index.{states-read}
use Rattle.sheet.specs.Sheet.{Within}
use Rattle.sheet.proofs.Laws.{indexed}
use Rattle.questions.specs.Put.{ranges_at, lowest_of, findings_by, mark_at, counts_right, read_questions}
use Rattle.std.proofs.Common.{Result, Ok, Err, OnOk, is_err}
use Rattle.questions.specs.Table.{indexed_before, served_by, served_refusal, asked_table}
use Rattle.questions.specs.Verdicts.{verdict_number, verdict}

-- a verdict's number is the one that it was made of
pub verdict-number : (n : ℕ) → verdict_number (verdict n) ≡ n
unfolding verdict
verdict-number zero = refl
verdict-number (suc n) = refl

-- what holds where a result is accepted
pub on-ok : (r : Result (Unit {0}) ℕ) {P : Type 0} → (r ≡ Ok tt → P) → OnOk r P
on-ok (Ok u) h = h refl
on-ok (Err k) h = tt

-- a verdict that accepts is made of 0, and one that refuses of another number
pub accepted-none : (n : ℕ) → verdict n ≡ Ok tt → n ≡ 0
accepted-none n e = sym (verdict-number n) ∙ ap verdict_number e

pub refused-some : (n k : ℕ) → verdict n ≡ Err k → n ≡ 0 → ⊥
unfolding verdict
refused-some zero k e z = cc
refused-some (suc n) k e z = absurd (omega arith)

-- a question answered yes
yes : (ask : Question) (more : List Question) → ask.answer tt ≡ true → first_no (ask ∷ more) ≡ first_no more
unfolding first_no
yes ask more h = rw h

-- questions 5 to 8, state by state, and the verdict on 5 and 6, and on 7 and 8, by their answers
module _ (p : Problem) (cells : List Cell) where
  module _ (above r₅ : Bool) (five : r₅ ≡ every (states p) (λ s. ranges_at (node_at p s) (cell_of cells s))) where
    is-5 : (b : Bool) → r₅ ≡ b → question5 p cells ≡ b
    unfolding question5 ranges_at
    is-5 b g = sym five ∙ g

    pub no-5 : r₅ ≡ false → Err 5 ≡ verdict (first_no (finding_questions p cells (λ _. findings_by above p)))
    unfolding first_no verdict
    no-5 a = rw (is-5 false a)

    module _ (r₆ : Bool)
        (six : r₆ ≡ every (states p) (λ s. successors_in_order (apart p.kind) (lowest_of above s) (states p) (node_at p s))) where
      is-6 : (b : Bool) → r₆ ≡ b → findings_by above p ≡ b
      unfolding question6 question6_draft findings_by lowest_of
      is-6 b g = go above six
        where
          go : (a : Bool) → r₆ ≡ every (states p) (λ s. successors_in_order (apart p.kind) (lowest_of a s) (states p) (node_at p s)) →
              findings_by a p ≡ b
          go true h = sym h ∙ g
          go false h = sym h ∙ g

      pub no-6 : r₅ ≡ true → r₆ ≡ false → Err 6 ≡ verdict (first_no (finding_questions p cells (λ _. findings_by above p)))
      unfolding first_no verdict
      no-6 a b = rw (is-5 true a, is-6 false b)

      pub findings-yes : r₅ ≡ true → r₆ ≡ true → Ok tt ≡ verdict (first_no (finding_questions p cells (λ _. findings_by above p)))
      unfolding first_no verdict
      findings-yes a b = rw (is-5 true a, is-6 true b)

  module _ (r₇ : Bool) (seven : r₇ ≡ every (states p) (λ s. value_under p cells s (node_at p s))) where
    is-7 : (b : Bool) → r₇ ≡ b → question7 p cells ≡ b
    unfolding question7
    is-7 b g = sym seven ∙ g

    pub no-7 : r₇ ≡ false → Err 7 ≡ verdict (first_no (mark_questions p cells))
    unfolding first_no verdict
    no-7 a = rw (is-7 false a)

    module _ (r₈ : Bool) (eight : r₈ ≡ every (states p) (mark_at p cells)) where
      is-8 : (b : Bool) → r₈ ≡ b → question8 p cells ≡ b
      unfolding question8 mark_at
      is-8 b g = sym eight ∙ g

      pub no-8 : r₇ ≡ true → r₈ ≡ false → Err 8 ≡ verdict (first_no (mark_questions p cells))
      unfolding first_no verdict
      no-8 a b = rw (is-7 true a, is-8 false b)

      pub marks-yes : r₇ ≡ true → r₈ ≡ true → Ok tt ≡ verdict (first_no (mark_questions p cells))
      unfolding first_no verdict
      marks-yes a b = rw (is-7 true a, is-8 true b)

-- what a yes to questions 5 and 6 gives those that follow
pub yes-5-6 : (p : Problem) (cells : List Cell) (six : Unit {0} → Bool) → verdict (first_no (finding_questions p cells six)) ≡ Ok tt →
    (question5 p cells ≡ true) × (six tt ≡ true)
yes-5-6 p cells six yes =
    let (five, (six, _)) = none-no (finding_questions p cells six) refl (accepted-none _ yes) in (five, six)

-- findings in order are stages, whether or not they have to be above their junction
pub findings-inside : (above : Bool) (p : Problem) → findings_by above p ≡ true → Inside p
unfolding findings_by
findings-inside true p h = six-inside p h
findings-inside false p h = draft-inside p h

-- questions 2 and 3, by the tag that is wanted of the head and a limit of states
module _ (wanted limit : ℕ) (s : List ℕ) where
  pub too_short : length s < min_bytes → Err 2 ≡ verdict (first_no (field_questions wanted limit s))
  unfolding first_no question2 all verdict
  too_short h = rw (lt-leb min_bytes (length s) h)

  module _ (ge : min_bytes ≤ length s) where
    pub too_long : max_bytes < length s → Err 2 ≡ verdict (first_no (field_questions wanted limit s))
    unfolding first_no question2 all verdict
    too_long h = rw (le-leb min_bytes (length s) ge, lt-leb (length s) max_bytes h)

    module _ (le : length s ≤ max_bytes) where
      two : question2 s ≡ true
      unfolding question2 all
      two = rw (le-leb min_bytes (length s) ge, le-leb (length s) max_bytes le)

      pub no-3 : question3 wanted limit s ≡ false → Err 3 ≡ verdict (first_no (field_questions wanted limit s))
      unfolding first_no verdict
      no-3 h = rw (two, h)

-- question 10 of a list of states, and of them one by one
counts_all : (ns : List Node) → every (length ns) (λ i. count_right (get_or ns i (terminal 0))) ≡ counts_right ns
unfolding counts_right every
counts_all [] = refl
counts_all (n ∷ ns) = every_first (length ns) (λ i. count_right (get_or (n ∷ ns) i (terminal 0))) ∙ rw (counts_all ns)

-- A sheet of a right length whose head is in place, by the tag that is wanted and a limit of states, and says that it has n states.
pub record Headed (wanted limit : ℕ) (s : List ℕ) (n : ℕ) : Type 0 where
  pub least : min_bytes ≤ length s
  pub most : length s ≤ max_bytes
  pub head : question3 wanted limit s ≡ true
  pub count : n ≡ states (problem_of s)

module _ {wanted limit : ℕ} {s : List ℕ} {n : ℕ} (h : Headed wanted limit s n) where
  said : n ≡ be16 s 4
  said = h.count ∙ states-read s

  four : nodes_good n (drop 8 s) ≡ question4 s
  unfolding question4
  four = rw said

  -- the nodes read are those of its problem, and so is the table
  nodes-are : nodes_read n (drop 8 s) ≡ (problem_of s).nodes
  unfolding problem_of
  nodes-are = rw said

  ten : counts_right (nodes_read n (drop 8 s)) ≡ question10 (problem_of s)
  unfolding question10
  ten = rw nodes-are (sym (counts_all (problem_of s).nodes))

  -- questions 4 and 10 of the states that were read are those of the sheet
  pub fields-are : first_no (read_questions n (drop 8 s)) ≡ first_no (field_questions wanted limit s)
  unfolding first_no
  fields-are = rw (two wanted limit s h.least h.most, h.head, four, ten)

  pub good-from : verdict (first_no (read_questions n (drop 8 s))) ≡ Ok tt → nodes_good n (drop 8 s) ≡ true
  good-from yes = (none-no (read_questions n (drop 8 s)) refl (accepted-none _ yes)).0

  pub table_is : (t rest : List ℕ) → t ≡ offsets_from 8 (nodes_read n (drop 8 s)) ++ drop n rest → t ≡ indexed_before s rest
  table_is t rest e = e ∙ rw (nodes-are, h.count)

-- questions 4 and 10 of n states, by their answers
module _ (n : ℕ) (bs : List ℕ) where
  pub no-4 : nodes_good n bs ≡ false → Err 4 ≡ verdict (first_no (read_questions n bs))
  unfolding first_no verdict
  no-4 a = rw a

  module _ (four : nodes_good n bs ≡ true) where
    pub no-10 : counts_right (nodes_read n bs) ≡ false → Err 10 ≡ verdict (first_no (read_questions n bs))
    unfolding first_no verdict
    no-10 b = rw (four, b)

    pub read-yes : counts_right (nodes_read n bs) ≡ true → Ok tt ≡ verdict (first_no (read_questions n bs))
    unfolding first_no verdict
    read-yes b = rw (four, b)

-- Bytes with a yes to questions 2 to 4 and 10, and a table that begins with the offsets: a sheet, which has a state.
pub record Fielded (s t : List ℕ) : Type 0 where
  pub long : 8 ≤ length s
  pub fits : length s ≤ max_bytes
  pub some : 0 < states (problem_of s)
  pub within : Within s t 0

pub fielded : (wanted limit : ℕ) (s t rest : List ℕ) → limit ≤ max_states → Bytes s → first_no (field_questions wanted limit s) ≡ 0 →
    t ≡ indexed_before s rest → Fielded s t
unfolding question2
fielded wanted limit s t rest le byte none e =
    let (two, (three, (four, _))) = none-no (field_questions wanted limit s) refl none in
    let head = head-raised wanted le s three in
    let shaped = read-shaped wanted s byte head four in
    record {
      long = (head-says s three).2;
      fits = leb-true (length s) max_bytes (all_true _ two).1.0;
      some = shaped.some;
      within = record { sheet = indexed _ (read-writes wanted s byte head four) shaped e; below = shaped.some };
    }

-- Questions put one list after the other: the verdict on the first list where that is a refusal, and else the one on the second.
module _ (asked more : List Question) (m : numbered 1 asked ≡ true) where
  pub then-more : verdict (first_no asked) ≡ Ok tt → first_no (asked ++ more) ≡ first_no more
  then-more yes = joined-yes asked more (none-no asked m (accepted-none _ yes))

  pub first_of : (k : ℕ) → verdict (first_no asked) ≡ Err k → Err k ≡ verdict (first_no (asked ++ more))
  first_of k e = sym e ∙ ap verdict (sym (joined-no asked more (refused-some _ k e)))

-- The verdict, and the table once the questions about the sheet have been put under the limit that it serves.
module _ (s t : List ℕ) where
  -- question 1 is answered yes
  refusal_is : served_refusal s t ≡ first_no (sheet_questions_under (served_by (length t)) s)
  unfolding sheet_refusal_under question1
  refusal_is =
      let limit = served_by (length t) in
      yes (question 1 (λ _. question1 limit (length t))) (sheet_questions_under limit s) (le-leb limit (length t) (omega arith))

  module _ (r : Result (Unit {0}) ℕ) (is : r ≡ verdict (first_no (sheet_questions_under (served_by (length t)) s))) where
    pub answer-is : r ≡ verdict (served_refusal s t)
    answer-is = is ∙ ap verdict (sym refusal_is)

    pub accepted-table : (t' : List ℕ) → is_err r ≡ false → OnOk r (t' ≡ indexed_before s t) → t' ≡ asked_table s t
    unfolding asked_table on_refusal
    accepted-table t' yes h = go r refl h
      where
        go : (v : Result (Unit {0}) ℕ) → r ≡ v → OnOk v (t' ≡ indexed_before s t) → t' ≡ asked_table s t
        go (Ok u) e h = rw (accepted-none _ (sym answer-is ∙ e)) h
        go (Err k) e h = let bad : is_err r ≡ true = rw e in never (sym yes ∙ bad)

    pub refused-table : (t' : List ℕ) → is_err r ≡ true → t' ≡ replicate (length t) 0 → t' ≡ asked_table s t
    unfolding asked_table on_refusal refused_table
    refused-table t' err zeros = go r refl (served_refusal s t) refl
      where
        go : (v : Result (Unit {0}) ℕ) → r ≡ v → (n : ℕ) → served_refusal s t ≡ n →
            t' ≡ on_refusal n (λ _. indexed_before s t) (refused_table t)
        go (Ok u) e n f = let bad : is_err r ≡ false = rw e in never (sym bad ∙ err)
        go (Err k) e zero f = absurd (refused-some _ k (sym answer-is ∙ e) f)
        go (Err k) e (suc zero) f =
            ⊎_elim (λ z. absurd (omega (arith, refusal_is, f, z))) (λ l. absurd (omega (arith, refusal_is, f, l)))
            (first-from 2 (sheet_questions_under (served_by (length t)) s) refl)
        go (Err k) e (suc (suc n)) f = zeros

  -- a table of fewer entries than the limit of all sheets is refused by question 1, and left as it was
  pub short-table : length t < max_states → (Err 1 ≡ verdict (sheet_refusal s (length t))) × (t ≡ checked_table s t)
  unfolding checked_table sheet_refusal_under first_no question1 verdict on_refusal refused_table
  short-table h = rw (lt-leb max_states (length t) h) (refl, refl)

-- a table of as many entries serves every sheet
pub served-most : (n : ℕ) → max_states ≤ n → served_by n ≡ max_states
served-most n ge = omega arith

-- zeros less the first n are zeros
zeros-left : (m n : ℕ) → drop {A = ℕ} n (replicate m 0) ≡ replicate (m - n) 0
zeros-left m zero = let e : m - 0 ≡ m = omega arith in rw e
zeros-left zero (suc n) = let e : 0 - suc n ≡ 0 = omega arith in rw e
zeros-left (suc m) (suc n) = let e : suc m - suc n ≡ m - n = omega arith in rw e (zeros-left m n)

-- the table t once it is cleared
abbrev pub cleared : List ℕ → List ℕ
cleared t = replicate (length t) 0

-- a cleared table that begins with the states' offsets, or is refused, is as the table t becomes, but where question 1 refuses
pub from-cleared : (s t : List ℕ) (k : ℕ) → (k ≡ 0) ⊎ (2 ≤ k) →
    on_refusal k (λ _. indexed_before s (cleared t)) (refused_table (cleared t))
    ≡ on_refusal k (λ _. index_table (problem_of s) (length t)) (refused_table t)
unfolding on_refusal index_table refused_table
from-cleared s t zero _ = rw zeros-left
from-cleared s t (suc zero) (inl z) = absurd (omega arith)
from-cleared s t (suc zero) (inr l) = absurd (omega arith)
from-cleared s t (suc (suc k)) _ = rw length-replicate

-- the questions put with a table t that was cleared first
pub cleared-table : (s t t' : List ℕ) → max_states ≤ length t → t' ≡ asked_table s (cleared t) → t' ≡ checked_table s t
unfolding asked_table checked_table
cleared-table s t t' ge table =
    let all = served-most (length t) ge in
    let same : served_refusal s (cleared t) ≡ sheet_refusal s (length t) = rw (length-replicate, all) in
    let number : (sheet_refusal s (length t) ≡ 0) ⊎ (2 ≤ sheet_refusal s (length t)) =
    rw (← all, refusal_is s t) (first-from 2 (sheet_questions_under (served_by (length t)) s) refl) in
    (rw same at table) ∙ from-cleared s t (sheet_refusal s (length t)) number
