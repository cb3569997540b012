-- Question 1 of both calls, and what a call leaves.
use Prim.Native.Nat.{ℕ, zero, suc, ◌<◌, ◌≤◌}
use mathlib.Core.Path.{◌≡◌, refl, sym, ◌∙◌}
use mathlib.Core.Bool.{true, false}
use mathlib.Core.Logic.{◌⊎◌, inl, inr}
use mathlib.Core.List.{List}
use native.Mathlib.Omega.{arith}
use borrow.Author.Tests.{le-leb, lt-leb, leb-true}
use lib.ListN.{length}
use Rattle.model.specs.Tests.{all}
use Rattle.model.specs.Limits.{max_states}
use Rattle.model.specs.Questions.{first_no}
use Rattle.model.specs.Report.{on_refusal, refused_table, table_given}
use Rattle.model.proofs.QuestionLaws.{first-from}
use Rattle.model.proofs.TestLaws.{never, all_true}
use Rattle.order.specs.Asking.{question1_lent, draft_questions, back_questions, rearrange_refusal, restore_refusal}
use Rattle.order.specs.Asking.{rearranged_bytes, restored_bytes, output_given, list_given}
use Rattle.order.specs.Asking.{rearranged_output, rearranged_list, rearranged_table}
use Rattle.order.specs.Asking.{restored_output, restored_table}
use Rattle.questions.specs.Table.{indexed_before}
use Rattle.questions.specs.Verdicts.{verdict}
use Rattle.std.proofs.Common.{Result, Ok, Err, OnOk, is_err}
use Rattle.questions.proofs.Asking.{accepted-none, refused-some, cleared, from-cleared}

-- question 1 by the first test that fails
module _ (s : List ℕ) (entries output listed : ℕ) where
  pub short-table : entries < max_states → question1_lent s entries output listed ≡ false
  unfolding question1_lent all
  short-table a = rw (lt-leb max_states entries a)

  pub short-output : max_states ≤ entries → output < length s → question1_lent s entries output listed ≡ false
  unfolding question1_lent all
  short-output a b = rw (le-leb max_states entries a, lt-leb (length s) output b)

  pub short-list : max_states ≤ entries → length s ≤ output → listed < max_states → question1_lent s entries output listed ≡ false
  unfolding question1_lent all
  short-list a b c = rw (le-leb max_states entries a, le-leb (length s) output b, lt-leb max_states listed c)

  pub room-enough : max_states ≤ entries → length s ≤ output → max_states ≤ listed → question1_lent s entries output listed ≡ true
  unfolding question1_lent all
  room-enough a b c = rw (le-leb max_states entries a, le-leb (length s) output b, le-leb max_states listed c)

  -- and what its yes says
  pub room_says : question1_lent s entries output listed ≡ true → (max_states ≤ entries) × (length s ≤ output) × (max_states ≤ listed)
  unfolding question1_lent
  room_says h = let (a, (b, (c, _))) = all_true _ h in (leb-true _ _ a, leb-true _ _ b, leb-true _ _ c)

-- The table that a call leaves once question 1 is answered yes and the table cleared, by the verdict on the questions behind it.
module _ (s t : List ℕ) (k : ℕ) (r : Result (Unit {0}) ℕ) (is : r ≡ verdict k) where
  accepted-table : (t' : List ℕ) → is_err r ≡ false → OnOk r (t' ≡ indexed_before s (cleared t)) → t' ≡ table_given k s t
  unfolding on_refusal
  accepted-table t' good h = go r refl h
    where
      go : (v : Result (Unit {0}) ℕ) → r ≡ v → OnOk v (t' ≡ indexed_before s (cleared t)) → t' ≡ table_given k s t
      go (Ok u) e h = rw (accepted-none k (sym is ∙ e)) (h ∙ from-cleared s t 0 (inl refl))
      go (Err n) e h = let bad : is_err r ≡ true = rw e in never (sym good ∙ bad)

  refused-later : (k ≡ 0) ⊎ (2 ≤ k) → (t' : List ℕ) → is_err r ≡ true → t' ≡ cleared t → t' ≡ table_given k s t
  unfolding on_refusal refused_table
  refused-later later t' err zeros = go r refl k refl later
    where
      go : (v : Result (Unit {0}) ℕ) → r ≡ v → (n : ℕ) → k ≡ n → (n ≡ 0) ⊎ (2 ≤ n) → t' ≡ table_given n s t
      go (Ok u) e n f l = let bad : is_err r ≡ false = rw e in never (sym bad ∙ err)
      go (Err m) e zero f l = absurd (refused-some k m (sym is ∙ e) f)
      go (Err m) e (suc zero) f (inl z) = absurd (omega arith)
      go (Err m) e (suc zero) f (inr l) = absurd (omega arith)
      go (Err m) e (suc (suc n)) f l = zeros

-- The rearranger.
module _ (s t o l : List ℕ) where
  abbrev pub Rearranged : Result (Unit {0}) ℕ → List ℕ → List ℕ → List ℕ → Type 0
  Rearranged r t' o' l' =
      (r ≡ verdict (rearrange_refusal s (length t) (length o) (length l))) ×
      ((o' ≡ rearranged_output s t o l) × ((l' ≡ rearranged_list s t o l) × (t' ≡ rearranged_table s t o l)))

  pub rearrange-short : question1_lent s (length t) (length o) (length l) ≡ false → Rearranged (Err 1) t o l
  unfolding rearrange_refusal first_no verdict rearranged_output rearranged_list rearranged_table on_refusal refused_table
  rearrange-short one = rw one (refl, (refl, (refl, refl)))

  refusal_is : question1_lent s (length t) (length o) (length l) ≡ true →
      rearrange_refusal s (length t) (length o) (length l) ≡ first_no (draft_questions s)
  unfolding rearrange_refusal first_no
  refusal_is one = rw one

  module _ (one : question1_lent s (length t) (length o) (length l) ≡ true) {r : Result (Unit {0}) ℕ}
      (is : r ≡ verdict (first_no (draft_questions s))) {t' o' l' : List ℕ}
      (output : o' ≡ output_given (first_no (draft_questions s)) (rearranged_bytes s) o)
      (list : l' ≡ list_given (first_no (draft_questions s)) s l) where
    made : t' ≡ table_given (first_no (draft_questions s)) s t → Rearranged r t' o' l'
    unfolding rearranged_output rearranged_list rearranged_table
    made table = rw (refusal_is one) (is, (output, (list, table)))

    pub rearrange-done : is_err r ≡ false → OnOk r (t' ≡ indexed_before s (cleared t)) → Rearranged r t' o' l'
    rearrange-done good table = made (accepted-table s t _ r is t' good table)

    pub rearrange-refused : is_err r ≡ true → t' ≡ cleared t → Rearranged r t' o' l'
    rearrange-refused err zeros = made (refused-later s t _ r is (first-from 2 (draft_questions s) refl) t' err zeros)

-- The inverse.
module _ (s t l o : List ℕ) where
  abbrev pub Restored : Result (Unit {0}) ℕ → List ℕ → List ℕ → Type 0
  Restored r t' o' =
      (r ≡ verdict (restore_refusal s (length t) l (length o))) × ((o' ≡ restored_output s t l o) × (t' ≡ restored_table s t l o))

  pub restore-short : question1_lent s (length t) (length o) (length l) ≡ false → Restored (Err 1) t o
  unfolding restore_refusal first_no verdict restored_output restored_table on_refusal refused_table
  restore-short one = rw one (refl, (refl, refl))

  refusal-back : question1_lent s (length t) (length o) (length l) ≡ true →
      restore_refusal s (length t) l (length o) ≡ first_no (back_questions s l)
  unfolding restore_refusal first_no
  refusal-back one = rw one

  module _ (one : question1_lent s (length t) (length o) (length l) ≡ true) {r : Result (Unit {0}) ℕ}
      (is : r ≡ verdict (first_no (back_questions s l))) {t' o' : List ℕ}
      (output : o' ≡ output_given (first_no (back_questions s l)) (restored_bytes s l) o) where
    made-back : t' ≡ table_given (first_no (back_questions s l)) s t → Restored r t' o'
    unfolding restored_output restored_table
    made-back table = rw (refusal-back one) (is, (output, table))

    pub restore-done : is_err r ≡ false → OnOk r (t' ≡ indexed_before s (cleared t)) → Restored r t' o'
    restore-done good table = made-back (accepted-table s t _ r is t' good table)

    pub restore-refused : is_err r ≡ true → t' ≡ cleared t → Restored r t' o'
    restore-refused err zeros = made-back (refused-later s t _ r is (first-from 2 (back_questions s l) refl) t' err zeros)
