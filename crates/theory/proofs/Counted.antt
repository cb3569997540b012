-- Counted junctions. S8.17: what bytes without one keep from when every junction was plain. S8.18: where one loses a check, what is left
-- is refused 10.
use Prim.Native.Nat.{ℕ, zero, suc, ◌+◌, ◌<◌, ◌≤◌}
use mathlib.Core.Path.{◌≡◌, refl, ap, ◌∙◌}
use mathlib.Core.Bool.{Bool, true, false}
use mathlib.Core.List.{List, ◌++◌}
use native.Mathlib.Omega.{arith}
use borrow.Author.Tests.{le-leb, leb-true, eqb-true, ne_eqb}
use lib.ListN.{length, take, drop, length-append, length-set, length-take, length-drop}
use Rattle.model.proofs.TestLaws.{never, all_true, true-all, every_true, true-every, every-false}
use Rattle.model.specs.Tests.{also}
use Rattle.model.specs.Problem.{Action, plain, counted, Node, terminal, decision, Problem, states, node_at, action_at}
use Rattle.model.specs.Limits.{max_states, min_bytes, max_bytes}
use Rattle.model.specs.Format.{Bytes, decision_length, write, action_size, node_size, offset, actions_of, form_of, action_offset}
use Rattle.model.specs.Read.{problem_of, cells_of}
use Rattle.model.specs.Questions.{question1, question2, question4, count_is, count_right, question10, first_no, refusal_under, refusal}
use Rattle.model.specs.Earlier.{instead, is_plain, all_plain, plain_refusal, Uncounted}
use Rattle.model.specs.Ldfs.{work}
use Rattle.model.specs.Report.{cells_after, on_refusal, answer_under, bytes_under, bytes_after, table_under}
use Rattle.model.specs.Demands.{Accepted, FormAdded, without_check, LossRefused}
use Rattle.layout.specs.Shape.{Shaped}
use Rattle.layout.proofs.Shapes.{is_state}
use Rattle.layout.proofs.Fields.{state-room}
use Rattle.layout.proofs.Back.{problem-back, ordinary-good, body-good}
use Rattle.layout.proofs.Without.{less_action, less_problem, less-length, without-action, less-node, less-shaped}
use Rattle.theory.proofs.LimitLaws.{sheet-raised, yes-accepted}
use Rattle.theory.proofs.Sheets.{Stands, accepted-stands, stands-problem, unrefused-under, unrefused}
use Rattle.theory.proofs.Called.{rewritten, bytes-refused}
use Rattle.theory.proofs.Work.{work-does}
use Rattle.theory.proofs.Promises.{problem-of, cells-of, still-a-sheet}

-- Where every junction is plain, question 10 is answered yes.
plain-right : (n : Node) → is_plain n ≡ true → count_right n ≡ true
unfolding is_plain count_right count_is
plain-right (terminal cost) h = refl
plain-right (decision plain acts) h = refl
plain-right (decision (counted m) acts) h = never h

pub all_right : (p : Problem) → all_plain p ≡ true → question10 p ≡ true
unfolding question10
all_right p h = true-every _ _ (λ s l. plain-right _ (every_true _ _ h s l))

-- So bytes without a counted junction are refused as they were; and what question 4 refuses today it refused then.
module _ (limit : ℕ) (s : List ℕ) (un : Uncounted s) where
  same-refusal : (entries budget : ℕ) → refusal_under limit s entries budget ≡ plain_refusal limit s entries budget
  unfolding refusal_under plain_refusal first_no instead also
  same-refusal entries budget = go (question4 s) refl
    where
      go : (b : Bool) → question4 s ≡ b → refusal_under limit s entries budget ≡ plain_refusal limit s entries budget
      go true e = rw (e, un e, all_right (problem_of s) (un e))
      go false e = rw e

  module _ (within : limit ≤ max_states) (bytes : Bytes s) where
    left-plain : (n entries budget : ℕ) → refusal_under limit s entries budget ≡ n →
        Uncounted (on_refusal n (λ _. write (problem_of s) (cells_after (work (problem_of s) (cells_of s) budget))) (λ _. s))
    unfolding on_refusal
    left-plain (suc n) entries budget e four = un four
    left-plain zero entries budget e four =
        let yes = unrefused-under limit s entries budget e in
        let stands = accepted-stands s bytes (yes-accepted max_states s (sheet-raised within s yes)) in
        let does = work-does (problem_of s) (problem-of stands) (cells_of s) budget (cells-of stands) in
        rw (stands-problem _ _ _ (rewritten s (problem_of s) (cells_of s) stands _ does.consistent)) (un yes.four)

    pub form-added : FormAdded limit s
    unfolding answer_under bytes_under table_under
    form-added = record {
      same_answer = λ entries budget. rw (same-refusal entries budget);
      same_bytes = λ entries budget. rw (same-refusal entries budget);
      same_table = λ t budget. rw (same-refusal (length t) budget);
      again = λ entries budget. left-plain (refusal_under limit s entries budget) entries budget refl;
    }

-- S3.4, S8.5: a call keeps every junction's form, the number that it writes included, whatever the bytes are.
pub forms-kept : (s : List ℕ) → Bytes s → (entries budget t : ℕ) →
    form_of (node_at (problem_of (bytes_after s entries budget)) t) ≡ form_of (node_at (problem_of s) t)
forms-kept s bytes entries budget t = go (refusal s entries budget) refl
  where
    same : (p : Problem) → p ≡ problem_of s → form_of (node_at p t) ≡ form_of (node_at (problem_of s) t)
    same p e = ap (λ (r : Problem). form_of (node_at r t)) e

    go : (n : ℕ) → refusal s entries budget ≡ n →
        form_of (node_at (problem_of (bytes_after s entries budget)) t) ≡ form_of (node_at (problem_of s) t)
    go zero e =
        let acc : Accepted s = record { bytes = bytes; yes = unrefused s entries budget e } in
        same _ (still-a-sheet s acc entries budget).1
    go (suc n) e = same _ (ap problem_of (bytes-refused s entries budget n e))

-- A junction that writes the number of its checks right writes it wrong once it has lost one.
count-wrong : (n : ℕ) (acts : List Action) (i : ℕ) → i < length acts → count_right (decision (counted n) acts) ≡ true →
    count_right (decision (counted n) (less_action acts i)) ≡ false
unfolding count_right count_is
count-wrong n acts i li h = ne_eqb n _ (λ e. omega (arith, eqb-true n (length acts) h, less-length acts i li))

-- an accepted sheet, a counted junction of it, and a check of that
module _ (s : List ℕ) (acc : Accepted s) (t i n : ℕ) (acts : List Action)
    (is : node_at (problem_of s) t ≡ decision (counted n) acts) (li : i < length acts) where
  stands : Stands s (problem_of s) (cells_of s)
  stands = accepted-stands s acc.bytes acc.yes

  below : t < states (problem_of s)
  below = is_state (problem_of s) t acts is

  -- the problem without that check
  abbrev less : Problem
  less = less_problem (problem_of s) t (counted n) acts i

  less-below : t < states less
  less-below = rw length-set below

  less-at : node_at less t ≡ decision (counted n) (less_action acts i)
  less-at = less-node (problem_of s) (cells_of s) stands.asked.shaped t below acts is i li

  shaped : Shaped less (cells_of s)
  shaped = less-shaped (problem_of s) (cells_of s) stands.asked.shaped t below acts is i li

  -- the bytes that are left are what it writes
  left_is : without_check s t i ≡ write less (cells_of s)
  unfolding actions_of
  left_is =
      let o = action_offset (problem_of s) t i in
      rw is
      (ap (λ (b : List ℕ). take o b ++ drop (o + action_size (action_at acts i)) b) stands.is
      ∙ without-action (problem_of s) (cells_of s) t below acts is i li)

  left-problem : problem_of (without_check s t i) ≡ less
  left-problem = ap problem_of left_is ∙ problem-back less (cells_of s) shaped

  left-size : question2 (without_check s t i) ≡ true
  unfolding question2 offset node_size decision_length
  left-size =
      let room = rw less-at at (state-room less (cells_of s) t less-below) in
      let enough : min_bytes ≤ length (without_check s t i) = rw left_is (omega arith) in
      let fits : length s ≤ max_bytes = leb-true (length s) max_bytes (all_true _ stands.size).1.0 in
      let most : length (without_check s t i) ≤ max_bytes = rw (length-append, length-take, length-drop) (omega arith) in
      true-all _ (le-leb min_bytes _ enough, (le-leb _ max_bytes most, tt))

  left-count : question10 (problem_of (without_check s t i)) ≡ false
  unfolding question10
  left-count =
      let right = rw is at (every_true _ _ stands.asked.ten t below) in
      rw left-problem (every-false (states less) _ t less-below (rw less-at (count-wrong n acts i li right)))

  left-refused : (entries budget : ℕ) → max_states ≤ entries → refusal (without_check s t i) entries budget ≡ 10
  unfolding refusal_under first_no question1
  left-refused entries budget room =
      let head = rw (← left_is) at (ordinary-good less (cells_of s) shaped stands.asked.ordinary) in
      let body = rw (← left_is) at (body-good less (cells_of s) shaped) in
      rw (le-leb max_states entries room, left-size, head, body, left-count)

pub loss-refused : (s : List ℕ) → Accepted s → LossRefused s
loss-refused s acc t i n acts is li = left-refused s acc t i n acts is li
