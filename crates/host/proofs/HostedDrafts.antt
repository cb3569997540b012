-- The host's calls on drafts: from an index table and a list of their own to the host's, over plain variables.
use Prim.Native.Nat.{ℕ, zero, suc, ◌≤◌}
use mathlib.Core.Path.{◌≡◌, refl, sym, ap, ◌∙◌}
use mathlib.Core.Bool.{Bool, true, false}
use mathlib.Core.Logic.{◌⊎◌}
use mathlib.Core.List.{List, ◌∷◌}
use native.Mathlib.Omega.{arith}
use lib.ListN.{length, take, replicate, length-replicate}
use Rattle.model.specs.Limits.{max_states}
use Rattle.model.specs.Problem.{states}
use Rattle.model.specs.Format.{head_tag, draft_tag}
use Rattle.model.specs.Read.{problem_of}
use Rattle.model.specs.Questions.{question, first_no}
use Rattle.model.specs.Report.{on_refusal}
use Rattle.model.proofs.QuestionLaws.{first-from, none-no}
use Rattle.layout.proofs.Index.{states-within}
use Rattle.questions.specs.Verdicts.{verdict, verdict_number}
use Rattle.questions.proofs.Asking.{verdict-number, accepted-none, refused-some}
use Rattle.std.proofs.Common.{Ok, Err}
use Rattle.order.specs.Order.{order}
use Rattle.order.specs.Asking.{question1_lent, draft_questions, back_questions, rearrange_refusal, restore_refusal}
use Rattle.order.specs.Asking.{restored_bytes, output_given, rearranged_output, rearranged_list}
use Rattle.order.specs.Asking.{rearranged_table, restored_output, restored_table}
use Rattle.order.proofs.Sheets.{unrefused-draft}
use Rattle.order.proofs.Unread.{back-same}
use Rattle.rearrange.proofs.Lending.{room-enough, room_says}
use Rattle.host.specs.Host.{entries, as_bytes, host_table_given}
use Rattle.host.specs.Served.{filled_up}
use Rattle.host.specs.HostDrafts.{numbers_in, host_numbers, order_list, number_given, draft_refusal, host_rearrange, host_rearrange_table}
use Rattle.host.specs.HostDrafts.{host_rearrange_output, host_rearrange_list, back_refusal, host_restore, host_restore_table}
use Rattle.host.specs.HostDrafts.{host_restore_output, HostedRearrange, HostedRestore}
use Rattle.host.proofs.Tables.{filled_more, table-given}
use Rattle.host.proofs.Numbers.{numbers-length, numbers-take}

-- the refusal of a verdict that refuses
refused-number : {r n : ℕ} → Err n ≡ verdict r → r ≡ n
refused-number {r} e = sym (verdict-number r) ∙ ap verdict_number (sym e)

-- the number and a slice after a refusal
number-some : (r did : ℕ) → (r ≡ 0 → ⊥) → number_given r did ≡ r
unfolding on_refusal
number-some zero did some = absurd (some refl)
number-some (suc r) did some = refl

kept-some : (r : ℕ) (made kept : List ℕ) → (r ≡ 0 → ⊥) → on_refusal r (λ _. made) (λ _. kept) ≡ kept
unfolding on_refusal
kept-some zero made kept some = absurd (some refl)
kept-some (suc r) made kept some = refl

-- An index table and a list of a call's own, long enough, for the host's table t and list l; and room for the sheet s in the output o: as a
-- call has them where there is room.
pub record Lent (index numbers s t o l : List ℕ) : Type 0 where
  pub index_room : max_states ≤ length index
  pub index_fits : length index ≤ entries t
  pub list_room : max_states ≤ length numbers
  pub list_fits : length numbers ≤ entries l
  pub output_room : length s ≤ length o

pub lent-own : {s t o l : List ℕ} {b : Bool} → b ≡ question1_lent s (entries t) (length o) (entries l) → b ≡ true →
    Lent (replicate max_states 0) (replicate max_states 0) s t o l
lent-own is holds =
    let (table, output, list) = room_says _ _ _ _ (sym is ∙ holds) in
    let long : length {A = ℕ} (replicate max_states 0) ≡ max_states = length-replicate {A = ℕ} max_states 0 in
    record {
      index_room = omega (arith, long);
      index_fits = omega (arith, long, table);
      list_room = omega (arith, long);
      list_fits = omega (arith, long, list);
      output_room = output;
    }

-- The rearranger on an index table and a list of its own.
module _ {index numbers s t o l : List ℕ} (h : Lent index numbers s t o l) where
  abbrev own : ℕ
  own = rearrange_refusal s (length index) (length o) (length numbers)

  own_room : question1_lent s (length index) (length o) (length numbers) ≡ true
  own_room = room-enough s (length index) (length o) (length numbers) h.index_room h.output_room h.list_room

  host-room : question1_lent s (entries t) (length o) (entries l) ≡ true
  host-room =
      room-enough s (entries t) (length o) (entries l) (omega (arith, h.index_room, h.index_fits)) h.output_room
      (omega (arith, h.list_room, h.list_fits))

  own_same : own ≡ draft_refusal s t o l
  unfolding rearrange_refusal first_no
  own_same = rw (own_room, host-room)

  own-later : (own ≡ 0) ⊎ (2 ≤ own)
  unfolding rearrange_refusal first_no
  own-later = rw own_room (first-from 2 (draft_questions s) refl)

  own-few : own ≡ 0 → states (problem_of s) ≤ max_states
  own-few z = states-within draft_tag s (unrefused-draft s (length index) (length o) (length numbers) z).2.three

  list_put : own ≡ 0 → {numbers' l' : List ℕ} → numbers' ≡ rearranged_list s index o numbers →
      l' ≡ as_bytes (filled_up numbers' (entries l)) l → l' ≡ host_rearrange_list s t o l
  unfolding host_rearrange_list rearranged_list on_refusal
  list_put none {numbers'} {l'} listed written =
      let p = problem_of s in
      let full = (unrefused-draft s (length index) (length o) (length numbers) none).2.full in
      let fits : length (order p) ≤ length numbers = omega (arith, full, own-few none, h.list_room) in
      let longer = filled_more (order p) (length numbers) (entries l) fits h.list_fits in
      let has : numbers' ≡ order_list p (length numbers) = listed ∙ rw none in
      let more : filled_up (order_list p (length numbers)) (entries l) ≡ order_list p (entries l) = rw full at longer in
      rw (sym own_same ∙ none)
      (written ∙ ap (λ (w : List ℕ). as_bytes (filled_up w (entries l)) l) has ∙ ap (λ (w : List ℕ). as_bytes w l) more)

  module _ {index' t' o' : List ℕ} (table : index' ≡ rearranged_table s index o numbers)
      (put : t' ≡ as_bytes (filled_up index' (entries t)) t) (output : o' ≡ rearranged_output s index o numbers) where
    table-put : t' ≡ host_rearrange_table s t o l
    unfolding rearranged_table host_rearrange_table
    table-put =
        rw (← own_same)
        (table-given own s index t own-later (λ z. omega (arith, own-few z, h.index_room)) h.index_fits
        (put ∙ ap (λ (w : List ℕ). as_bytes (filled_up w (entries t)) t) table))

    output-put : o' ≡ host_rearrange_output s t o l
    unfolding rearranged_output host_rearrange_output
    output-put = output ∙ rw own_same

    pub rearranged-refused : {n : ℕ} → Err n ≡ verdict own → HostedRearrange s t o l n t' o' l
    unfolding host_rearrange host_rearrange_list
    rearranged-refused err =
        let not : draft_refusal s t o l ≡ 0 → ⊥ = λ z. refused-some own _ (sym err) (own_same ∙ z) in (
          sym (refused-number err) ∙ own_same ∙ sym (number-some (draft_refusal s t o l) 105 not),
          (table-put, (output-put, sym (kept-some (draft_refusal s t o l) (as_bytes (order_list (problem_of s) (entries l)) l) l not))),
        )

    pub rearranged-done : Ok tt ≡ verdict own → {numbers' l' : List ℕ} →
        numbers' ≡ rearranged_list s index o numbers →
        l' ≡ as_bytes (filled_up numbers' (entries l)) l → HostedRearrange s t o l 105 t' o' l'
    unfolding host_rearrange on_refusal
    rearranged-done ok listed written =
        let none : own ≡ 0 = accepted-none own (sym ok) in
        (rw (sym own_same ∙ none), (table-put, (output-put, list_put none listed written)))

-- What either call does for want of room.
module _ (s t o l : List ℕ) where
  pub rearrange-no-room : question1_lent s (entries t) (length o) (entries l) ≡ false → HostedRearrange s t o l 1 t o l
  unfolding rearrange_refusal first_no host_rearrange host_rearrange_table host_table_given host_rearrange_output host_rearrange_list
      on_refusal
  rearrange-no-room e = rw e (refl, (refl, (refl, refl)))

  pub restore-no-room : question1_lent s (entries t) (length o) (entries l) ≡ false → HostedRestore s t l o 1 t o
  unfolding restore_refusal first_no host_restore host_restore_table host_table_given host_restore_output on_refusal
  restore-no-room e = rw (numbers-length, e) (refl, (refl, refl))

-- The inverse on an index table and a list of its own.
module _ {index numbers₀ s t o l : List ℕ} (lent : Lent index numbers₀ s t o l) {numbers : List ℕ}
    (got : numbers ≡ numbers_in (length numbers₀) l) where
  -- the list that was read is as long as the one that was lent
  same-long : length numbers ≡ length numbers₀
  same-long = ap length got ∙ numbers-length (length numbers₀) l

  h : Lent index numbers s t o l
  h = record {
    index_room = lent.index_room;
    index_fits = lent.index_fits;
    list_room = omega (arith, same-long, lent.list_room);
    list_fits = omega (arith, same-long, lent.list_fits);
    output_room = lent.output_room;
  }

  abbrev back : ℕ
  back = restore_refusal s (length index) numbers (length o)

  -- the stages' entries
  taken : states (problem_of s) ≤ max_states → take (states (problem_of s)) numbers ≡ take (states (problem_of s)) (host_numbers l)
  taken few =
      ap (take (states (problem_of s))) got ∙
      numbers-take (states (problem_of s)) (length numbers₀) l (omega (arith, few, lent.list_room)) ∙
      sym (numbers-take (states (problem_of s)) (entries l) l (omega (arith, few, h.list_room, h.list_fits)))

  back-refusal : back ≡ back_refusal s t l o
  unfolding restore_refusal first_no
  back-refusal = rw (own_room h, numbers-length (entries l) l, host-room h) (back-same s numbers (host_numbers l) taken)

  back-later : (back ≡ 0) ⊎ (2 ≤ back)
  unfolding restore_refusal first_no
  back-later = rw (own_room h) (first-from 2 (back_questions s numbers) refl)

  back-few : back ≡ 0 → states (problem_of s) ≤ max_states
  unfolding restore_refusal
  back-few z = states-within head_tag s (none-no (question 1 (λ _. question1_lent s (length index) (length o) (length numbers)) ∷
      back_questions s numbers) refl z).1.1.0

  module _ {index' t' o' : List ℕ} (table : index' ≡ restored_table s index numbers o)
      (put : t' ≡ as_bytes (filled_up index' (entries t)) t) (output : o' ≡ restored_output s index numbers o) where
    table-back : t' ≡ host_restore_table s t l o
    unfolding restored_table host_restore_table
    table-back =
        rw (← back-refusal)
        (table-given back s index t back-later (λ z. omega (arith, back-few z, h.index_room)) h.index_fits
        (put ∙ ap (λ (w : List ℕ). as_bytes (filled_up w (entries t)) t) table))

    output-back : o' ≡ host_restore_output s t l o
    unfolding restored_output host_restore_output on_refusal
    output-back = output ∙ rw (← back-refusal) (go back refl)
      where
        go : (r : ℕ) → back ≡ r → output_given r (restored_bytes s numbers) o ≡ output_given r (restored_bytes s (host_numbers l)) o
        go zero e = rw (taken (back-few e))
        go (suc r) e = refl

    pub restored-refused : {n : ℕ} → Err n ≡ verdict back → HostedRestore s t l o n t' o'
    unfolding host_restore
    restored-refused err =
        let not : back_refusal s t l o ≡ 0 → ⊥ = λ z. refused-some back _ (sym err) (back-refusal ∙ z) in
        (sym (refused-number err) ∙ back-refusal ∙ sym (number-some (back_refusal s t l o) 106 not), (table-back, output-back))

    pub restored-done : Ok tt ≡ verdict back → HostedRestore s t l o 106 t' o'
    unfolding host_restore on_refusal
    restored-done ok = (rw (sym back-refusal ∙ accepted-none back (sym ok)), (table-back, output-back))
