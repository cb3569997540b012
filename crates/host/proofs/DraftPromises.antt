-- The promises of `ldfs_rearrange` and `ldfs_restore`, by the numbers returned and the bytes of their slices.
use Prim.Native.Nat.{ℕ, zero, suc, ◌-◌, ◌*◌, ◌<◌, ◌≤◌}
use mathlib.Core.Path.{◌≡◌, refl, sym, ap, ◌∙◌, subst}
use mathlib.Core.Bool.{true}
use mathlib.Core.Logic.{◌⊎◌, inl, inr, ◌↔◌}
use mathlib.Core.List.{List, ◌∷◌, ◌++◌}
use native.Mathlib.Omega.{arith}
use borrow.Author.Tests.{le-leb}
use lib.ListN.{length, get_or, take, drop, replicate, length-append, length-replicate, get_or-eq_default}
use lib.Seq.{take_at, drop_at}
use Rattle.model.specs.Limits.{max_states}
use Rattle.model.specs.Problem.{Problem, states}
use Rattle.model.specs.Format.{Bytes, draft_tag, write}
use Rattle.model.specs.Read.{problem_of, cells_of}
use Rattle.model.specs.Optimal.{optimal}
use Rattle.model.specs.Questions.{question, first_no}
use Rattle.model.specs.Report.{on_refusal}
use Rattle.model.specs.Calls.{Call, left}
use Rattle.model.specs.Demands.{Accepted}
use Rattle.model.proofs.QuestionLaws.{first_below, none-no, all_yes}
use Rattle.model.proofs.TestLaws.{true-all}
use Rattle.layout.proofs.Index.{states-within}
use Rattle.theory.proofs.Basics.{lt-or-le}
use Rattle.theory.proofs.Demands.{demand3}
use Rattle.theory.proofs.Sheets.{accepted-stands, stands-yes}
use Rattle.order.specs.Order.{order, inverse}
use Rattle.order.specs.Moved.{at, moved_cells}
use Rattle.order.specs.Asking.{question1_lent, question11_back, draft_questions, back_questions, rearrange_refusal, restore_refusal}
use Rattle.order.specs.Asking.{before_circle, rearranged_bytes, restored_bytes}
use Rattle.order.specs.Claims.{Circle, Rearranges}
use Rattle.order.proofs.Sheets.{Draft, unrefused-draft, back-unrefused}
use Rattle.order.proofs.Promises.{refused-circle, rearranges, restores}
use Rattle.host.specs.Host.{entries, as_bytes}
use Rattle.host.specs.HostCalls.{read_le32, HostedAll}
use Rattle.host.specs.HostDrafts.{host_numbers, order_list, number_given, draft_refusal, host_rearrange, host_rearrange_output}
use Rattle.host.specs.HostDrafts.{host_rearrange_list, back_refusal, host_restore, host_restore_output, HostedRearrange, HostedRestore}
use Rattle.host.specs.DraftCalls.{sheet_in, RestoresTo, HostRearranges, HostRestores}
use Rattle.host.proofs.Bytes.{filled_at}
use Rattle.host.proofs.Numbers.{numbers-at, as-entries, as-numbers}
use Rattle.host.proofs.Promises.{host-calls}

-- A refusal's number is below 100.
done_none : (r did : ℕ) → r < 100 → 100 ≤ did → number_given r did ≡ did → r ≡ 0
unfolding on_refusal
done_none zero did few much e = refl
done_none (suc r) did few much e = absurd (omega (arith, e, few, much))

refusal-below : (s : List ℕ) (e o l : ℕ) → rearrange_refusal s e o l < 100
unfolding rearrange_refusal
refusal-below s e o l = first_below 1 (question 1 (λ _. question1_lent s e o l) ∷ draft_questions s) refl

-- An accepted sheet with a list of all its stages is not refused by the inverse, where table, output and list are long enough.
back-taken : (b list : List ℕ) → Accepted b → question11_back (problem_of b) list ≡ true → (e o : ℕ) → max_states ≤ e → length b ≤ o →
    max_states ≤ length list → restore_refusal b e list o ≡ 0
unfolding restore_refusal question1_lent
back-taken b list acc eleven e o table room long =
    let yes = stands-yes _ _ _ (accepted-stands b acc.bytes acc.yes) in
    all_yes (question 1 (λ _. question1_lent b e o (length list)) ∷ back_questions b list) (
      true-all _ (le-leb _ _ table, (le-leb _ _ room, (le-leb _ _ long, tt))),
      (yes.two, (yes.three, (yes.four, (yes.ten, (yes.five, (yes.six, (eleven, (yes.seven, (yes.eight, tt))))))))),
    )

-- so a call of `ldfs_restore` puts the draft into the output
puts_back : (b l : List ℕ) → Accepted b → question11_back (problem_of b) (host_numbers l) ≡ true → max_states ≤ length (host_numbers l) →
    RestoresTo b l (restored_bytes b (host_numbers l))
unfolding host_restore host_restore_output on_refusal
puts_back b l acc eleven long t o k t' o' (number, (_, output)) table room =
    let none : back_refusal b t l o ≡ 0 = back-taken b (host_numbers l) acc eleven (entries t) (length o) table room long in
    (rw none at number, rw none at output)

-- One call of `ldfs_rearrange` on the bytes s.
module _ (s : List ℕ) (byte : Bytes s) (t o l : List ℕ) {k : ℕ} {t' o' l' : List ℕ} (made : HostedRearrange s t o l k t' o' l') where
  module _ (un : draft_refusal s t o l ≡ 0) where
    abbrev p : Problem
    p = problem_of s

    draft : (length s ≤ length o) × (max_states ≤ entries l) × Draft s
    draft = unrefused-draft s (entries t) (length o) (entries l) un

    promise : Rearranges s
    promise = rearranges s byte (entries t) (length o) (entries l) un

    few : states p ≤ max_states
    few = states-within draft_tag s draft.2.three

    -- the slices
    output-is : o' ≡ rearranged_bytes s ++ drop (length (rearranged_bytes s)) o
    unfolding host_rearrange_output on_refusal
    output-is = made.1.1.0 ∙ rw un

    list-is : l' ≡ as_bytes (order_list p (entries l)) l
    unfolding host_rearrange_list on_refusal
    list-is = made.1.1.1 ∙ rw un

    sheet-is : sheet_in s o' ≡ rearranged_bytes s
    sheet-is = ap (take (length s)) output-is ∙ take_at (rearranged_bytes s) _ (length s) promise.long

    rest-is : drop (length s) o' ≡ drop (length s) o
    rest-is =
        ap (drop (length s)) output-is ∙ drop_at (rearranged_bytes s) _ (length s) promise.long
        ∙ ap (λ (n : ℕ). drop n o) promise.long

    -- the list's numbers
    old-small : (i : ℕ) → get_or (order_list p (entries l)) i 0 < 4294967296
    old-small i = rw (filled_at (order p) (entries l - states p) i) (go (lt-or-le i (states p)))
      where
        go : (i < states p) ⊎ (states p ≤ i) → get_or (order p) i 0 < 4294967296
        go (inl lt) = omega (arith, promise.renumbered.from_below i lt, few)
        go (inr ge) =
            let past : length (order p) ≤ i = omega (arith, promise.renumbered.from_length) in
            rw (get_or-eq_default (order p) 0 past) (omega arith)

    old-long : length (order_list p (entries l)) ≡ entries l
    old-long =
        omega (
          arith,
          length-append (order p) (replicate (entries l - states p) 0),
          length-replicate {A = ℕ} (entries l - states p) 0,
          promise.renumbered.from_length,
          few,
          draft.1,
        )

    entries-same : entries l' ≡ entries l
    entries-same = ap entries list-is ∙ as-entries (order_list p (entries l)) l old-long

    numbers-are : host_numbers l' ≡ order_list p (entries l)
    numbers-are = ap host_numbers list-is ∙ as-numbers (order_list p (entries l)) l old-long old-small

    old-at : (i : ℕ) → i < states p → read_le32 l' (4 * i) ≡ at (order p) i
    old-at i lt =
        sym (numbers-at (entries l') l' i (omega (arith, entries-same, few, draft.1))) ∙
        ap (λ (xs : List ℕ). get_or xs i 0) numbers-are ∙ filled_at (order p) (entries l - states p) i

    least-are : (i : ℕ) → i < states p → optimal (problem_of (sheet_in s o')) i ≡ optimal p (read_le32 l' (4 * i))
    least-are i lt =
        let same = promise.same_costs.least (at (order p) i) (promise.renumbered.from_below i lt) in
        rw (sheet-is, old-at i lt) (rw (promise.renumbered.to_from i lt) at same)

    -- the inverse is given every stage number
    eleven : question11_back (problem_of (rearranged_bytes s)) (host_numbers l') ≡ true
    unfolding restore_refusal
    eleven =
        let none = back-unrefused s byte draft.2 (replicate (entries l - states p) 0) max_states (length s) (omega arith) (omega arith)
        (omega (arith, old-long, draft.1)) in
        rw numbers-are
        (none-no (question 1 (λ _. question1_lent (rearranged_bytes s) max_states (length s) (length (order_list p (entries l)))) ∷
        back_questions (rearranged_bytes s) (order_list p (entries l))) refl none).1.1.1.1.1.1.1.0

    numbers-long : max_states ≤ length (host_numbers l')
    numbers-long = rw numbers-are (omega (arith, old-long, draft.1))

    back_is : RestoresTo (rearranged_bytes s) l' s
    back_is =
        let is : restored_bytes (rearranged_bytes s) (host_numbers l') ≡ s =
        ap (restored_bytes (rearranged_bytes s)) numbers-are ∙ promise.back (replicate (entries l - states p) 0) in
        subst (RestoresTo (rearranged_bytes s) l') is (puts_back (rearranged_bytes s) l' promise.accepted eleven numbers-long)

    worked-is : (calls : List Call) → HostedAll (rearranged_bytes s) calls →
        let b = left (rearranged_bytes s) calls in
        RestoresTo b l' (write p (moved_cells (inverse (order p)) (cells_of b)))
    worked-is calls hosted =
        let all = host-calls promise.accepted hosted in
        let kept = demand3 promise.accepted all in
        let b = left (rearranged_bytes s) calls in
        let asked : question11_back (problem_of b) (host_numbers l') ≡ true =
        ap (λ (q : Problem). question11_back q (host_numbers l')) kept.same_problem ∙ eleven in
        let is = ap (restored_bytes b) numbers-are ∙ promise.worked_back calls all (replicate (entries l - states p) 0) in
        subst (RestoresTo b l') is (puts_back b l' kept.still_accepted asked numbers-long)

    rearranged-all : HostRearranges s o o' l'
    rearranged-all = record {
      sheet = rw sheet-is promise.accepted;
      behind = rest-is;
      old = numbers-are ∙ ap (order_list p) (sym entries-same);
      least = least-are;
      back = rw sheet-is back_is;
      worked_back = rw sheet-is worked-is;
      promised = promise;
    }

  refused-below : draft_refusal s t o l < 100
  refused-below = refusal-below s (entries t) (length o) (entries l)

  -- Where it returned 105, all of this holds.
  pub host-rearranges : k ≡ 105 → HostRearranges s o o' l'
  unfolding host_rearrange
  host-rearranges e =
      rearranged-all (done_none (draft_refusal s t o l) 105 refused-below (omega arith) (sym made.0 ∙ e))

  -- S13.11: it returned 11 exactly where every question before 11 is answered yes and findings lead in a circle.
  pub host-circle : (k ≡ 11) ↔ ((first_no (before_circle s (entries t) (length o) (entries l)) ≡ 0) × Circle (problem_of s))
  unfolding host_rearrange on_refusal
  host-circle = (λ e. exactly.0 (refused (draft_refusal s t o l) refl e), λ c. made.0 ∙ rw (exactly.1 c))
    where
      exactly : (draft_refusal s t o l ≡ 11) ↔ ((first_no (before_circle s (entries t) (length o) (entries l)) ≡ 0) × Circle (problem_of s))
      exactly = refused-circle s (entries t) (length o) (entries l)

      refused : (r : ℕ) → draft_refusal s t o l ≡ r → k ≡ 11 → draft_refusal s t o l ≡ 11
      refused zero e h = let z : ◌≡◌ {A = ℕ} 105 11 = sym (made.0 ∙ rw e) ∙ h in absurd (omega arith)
      refused (suc r) e h = e ∙ (sym (made.0 ∙ rw e) ∙ h)

  -- Any other number is a refusal: output and list are as they were.
  pub host-rearrange-refused : (k ≡ 105 → ⊥) → (o' ≡ o) × (l' ≡ l)
  unfolding host_rearrange host_rearrange_output host_rearrange_list on_refusal
  host-rearrange-refused not = go (draft_refusal s t o l) refl
    where
      go : (r : ℕ) → draft_refusal s t o l ≡ r → (o' ≡ o) × (l' ≡ l)
      go zero e = absurd (not (made.0 ∙ rw e))
      go (suc r) e = (made.1.1.0 ∙ rw e, made.1.1.1 ∙ rw e)

back_below : (s list : List ℕ) (e o : ℕ) → restore_refusal s e list o < 100
unfolding restore_refusal
back_below s list e o = first_below 1 (question 1 (λ _. question1_lent s e o (length list)) ∷ back_questions s list) refl

-- One call of `ldfs_restore`. Where it returned 106, the output begins with a draft, and is as it was behind it (S13.19).
pub host-restores : (s : List ℕ) → Bytes s → (t l o : List ℕ) {k : ℕ} {t' o' : List ℕ} → HostedRestore s t l o k t' o' → k ≡ 106 →
    HostRestores s l o o'
unfolding host_restore host_restore_output on_refusal
host-restores s byte t l o {k} {t'} {o'} made e =
    let un = done_none (back_refusal s t l o) 106 (back_below s (host_numbers l) (entries t) (length o)) (omega arith) (sym made.0 ∙ e) in
    let promise = restores s (host_numbers l) byte (entries t) (length o) un in
    let is : o' ≡ restored_bytes s (host_numbers l) ++ drop (length (restored_bytes s (host_numbers l))) o = made.1.1 ∙ rw un in
    record {
      draft = ap (take (length s)) is ∙ take_at (restored_bytes s (host_numbers l)) _ (length s) promise.long;
      behind =
          ap (drop (length s)) is ∙ drop_at (restored_bytes s (host_numbers l)) _ (length s) promise.long
          ∙ ap (λ (n : ℕ). drop n o) promise.long;
      promised = promise;
    }

-- Where it returned another number, the output is as it was.
pub host-restore-refused : (s t l o : List ℕ) {k : ℕ} {t' o' : List ℕ} → HostedRestore s t l o k t' o' → (k ≡ 106 → ⊥) → o' ≡ o
unfolding host_restore host_restore_output on_refusal
host-restore-refused s t l o {k} {t'} {o'} made not = go (back_refusal s t l o) refl
  where
    go : (r : ℕ) → back_refusal s t l o ≡ r → o' ≡ o
    go zero e = absurd (not (made.0 ∙ rw e))
    go (suc r) e = made.1.1 ∙ rw e
