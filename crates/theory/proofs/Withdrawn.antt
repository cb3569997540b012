-- S8.16: what a sheet keeps that was accepted when every junction had to have a check, a sheet 20 bytes, and no value was above the
-- ceiling.
use Prim.Native.Nat.{ℕ, zero, suc, ◌<◌, ◌≤◌}
use mathlib.Core.Path.{◌≡◌, refl, sym, ap, ◌∙◌}
use mathlib.Core.Bool.{true}
use mathlib.Core.List.{List}
use native.Mathlib.Omega.{arith}
use borrow.Author.Tests.{le-leb, leb-true, eq-eqb, eqb-true}
use lib.ListN.{length}
use Rattle.model.proofs.TestLaws.{also-true, true-also, all_true, true-all, every_true, true-every}
use Rattle.model.proofs.QuestionLaws.{AllYes, none-no, all_yes}
use Rattle.model.specs.Problem.{Problem, Cell, states, value_of}
use Rattle.model.specs.Limits.{max_states, ceiling}
use Rattle.model.specs.Format.{Bytes, head_tag, be16, write}
use Rattle.model.specs.Read.{problem_of, cells_of}
use Rattle.model.specs.Questions.{question2, every_state, sheet_questions_under, first_no}
use Rattle.model.specs.Questions.{refusal_under}
use Rattle.model.specs.Policy.{Checked}
use Rattle.model.specs.Earlier.{instead, has_check, checked_then, checked_refusal, checked_accepted, work_then}
use Rattle.model.specs.Report.{cells_after, on_refusal, answer_under, bytes_under, table_under}
use Rattle.model.specs.Ldfs.{work}
use Rattle.model.specs.Demands.{Withdrawn}
use Rattle.layout.proofs.Heads.{head-says, head-same}
use Rattle.layout.proofs.Shapes.{is_state}
use Rattle.layout.proofs.Index.{states-within, states-read}
use Rattle.layout.proofs.Places.{write-length}
use Rattle.theory.specs.Consistent.{Consistent}
use Rattle.theory.proofs.LimitLaws.{SheetYes, by_number, in-turn, with-head, sheet-raised, yes-accepted, refusals-left}
use Rattle.theory.proofs.Sheets.{Stands, accepted-stands, stands-yes, stands-problem, stands-cells}
use Rattle.theory.proofs.Called.{rewritten}
use Rattle.theory.proofs.Promises.{problem-of, cells-of}
use Rattle.theory.proofs.Numbers.{numbers, work-same}
use Rattle.theory.proofs.Work.{work-does}

-- the test that every junction has a check, and that each has
abbrev AllChecked : Problem → Type 0
AllChecked p = every_state p (λ t n. has_check n) ≡ true

each-checked : (p : Problem) → AllChecked p → Checked p
unfolding has_check
each-checked p h s form acts e = leb-true 1 (length acts) (rw e at (every_true (states p) _ h s (is_state p s acts e)))

-- What the questions of that time say of a sheet that they accept, beside what today's do.
pub record Then (limit : ℕ) (s : List ℕ) : Type 0 where
  pub today : SheetYes limit s
  long : 20 ≤ length s
  checks : AllChecked (problem_of s)
  low : (t : ℕ) → t < states (problem_of s) → value_of (cells_of s) t ≤ ceiling

pub says_then : (limit : ℕ) (s : List ℕ) → AllYes (checked_then s (sheet_questions_under limit s)) → Then limit s
unfolding instead question2
says_then limit s (two, (three, (four, (ten, (five, more))))) =
    let (least, most) = all_true _ two in
    let (fields, checks) = also-true _ _ four in
    let (ranges, low) = also-true _ _ five in
    let enough = le-leb 17 (length s) (omega (arith, leb-true 20 (length s) least)) in
    record {
      today = by_number limit s (true-all _ (enough, most), (three, (fields, (ten, (ranges, more)))));
      long = leb-true 20 (length s) least;
      checks = checks;
      low = λ t l. leb-true _ _ (every_true _ _ low t l);
    }

-- and the other way
then-says : (limit : ℕ) (s : List ℕ) → Then limit s → AllYes (checked_then s (sheet_questions_under limit s))
unfolding instead question2
then-says limit s h =
    let (two, (three, (fields, (ten, (ranges, more))))) = in-turn limit s h.today in
    let (least, most) = all_true _ two in
    let low = true-every _ _ (λ t l. le-leb _ _ (h.low t l)) in
    let five = true-also _ _ ranges low in
    (true-all _ (le-leb 20 (length s) h.long, most), (three, (true-also _ _ fields h.checks, (ten, (five, more)))))

accepted-then : (limit : ℕ) (s : List ℕ) → checked_accepted limit s ≡ true → Then limit s
unfolding checked_accepted instead
accepted-then limit s acc = says_then limit s (none-no (checked_then s (sheet_questions_under limit s)) refl (eqb-true _ _ acc))

pub then-accepted : (limit : ℕ) (s : List ℕ) → Then limit s → checked_accepted limit s ≡ true
unfolding checked_accepted
then-accepted limit s h = eq-eqb _ _ (all_yes (checked_then s (sheet_questions_under limit s)) (then-says limit s h))

-- such a sheet is refused for its table or its budget only, then as today
same-refusal : (limit : ℕ) (s : List ℕ) → Then limit s → (entries budget : ℕ) →
    refusal_under limit s entries budget ≡ checked_refusal limit s entries budget
unfolding checked_refusal first_no instead
same-refusal limit s h entries budget =
    let (two, (three, (four, (ten, (five, (six, (seven, (eight, _)))))))) = then-says limit s h in
    refusals-left limit s h.today entries budget ∙ sym (rw (two, three, four, ten, five, six, seven, eight))

module _ (limit : ℕ) (within : limit ≤ max_states) (s : List ℕ) (bytes : Bytes s) (acc : checked_accepted limit s ≡ true) where
  was : Then limit s
  was = accepted-then limit s acc

  stands : Stands s (problem_of s) (cells_of s)
  stands = accepted-stands s bytes (yes-accepted max_states s (sheet-raised within s was.today))

  checked : Checked (problem_of s)
  checked = each-checked (problem_of s) was.checks

  work-is : (budget : ℕ) → work (problem_of s) (cells_of s) budget ≡ work_then s budget
  work-is budget = sym (work-same (problem_of s) (problem-of stands) checked budget (cells_of s) (cells-of stands))

  -- consistent cells of the same problem, written, are again such a sheet
  written_then : (cells : List Cell) → Consistent (problem_of s) cells → Then limit (write (problem_of s) cells)
  written_then cells h =
      let left = rewritten s (problem_of s) (cells_of s) stands cells h in
      let problem = stands-problem _ _ _ left in
      let yes = stands-yes _ _ _ left in
      let few = states-within head_tag s was.today.three in
      let count : states (problem_of s) ≡ be16 (write (problem_of s) cells) 4 =
      ap (λ (p : Problem). states p) (sym problem) ∙ states-read (write (problem_of s) cells) in
      let head = head-same head_tag max_states limit _ (head-says _ yes.three).5 (omega (arith, count, few)) in
      let size : length (write (problem_of s) cells) ≡ length s =
      write-length (problem_of s) cells (cells_of s) ∙ ap (λ (b : List ℕ). length b) (sym stands.is) in
      record {
        today = with-head limit _ yes (sym head ∙ yes.three);
        long = omega (arith, was.long);
        checks = rw problem was.checks;
        low = λ t l. rw (stands-cells _ _ _ left) (numbers (problem_of s) (problem-of stands) checked cells h t);
      }

  pub checks-withdrawn : Withdrawn limit s
  unfolding answer_under bytes_under table_under on_refusal
  checks-withdrawn = record {
    still_accepted = yes-accepted limit s was.today;
    same_answer = λ entries budget. rw (same-refusal limit s was entries budget, work-is budget);
    same_bytes = λ entries budget. rw (same-refusal limit s was entries budget, work-is budget);
    same_table = λ t budget. rw (same-refusal limit s was (length t) budget);
    again = λ entries budget. again (refusal_under limit s entries budget) budget;
  }
    where
      again : (n budget : ℕ) →
          checked_accepted limit
          (on_refusal n (λ _. write (problem_of s) (cells_after (work (problem_of s) (cells_of s) budget))) (λ _. s)) ≡ true
      again zero budget =
          then-accepted limit _
          (written_then _ (work-does (problem_of s) (problem-of stands) (cells_of s) budget (cells-of stands)).consistent)
      again (suc n) budget = acc
