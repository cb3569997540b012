-- S8.13: what a sheet keeps that was accepted when question 6 asked every sheet for strictly ascending findings.
use Prim.Native.Nat.{ℕ, ◌+◌, ◌≤◌}
use mathlib.Core.Path.{◌≡◌, refl, sym, ◌∙◌}
use mathlib.Core.Bool.{true}
use mathlib.Core.List.{List, [], ◌∷◌}
use native.Mathlib.Omega.{arith}
use borrow.Author.Tests.{eqb-true}
use lib.ListN.{length}
use Rattle.model.proofs.TestLaws.{every_true, true-every}
use Rattle.model.specs.Problem.{Kind, worst, whole, Node, terminal, decision, Problem}
use Rattle.model.specs.Read.{problem_of}
use Rattle.model.specs.Questions.{apart, ascending, successors_in_order, in_order, question6}
use Rattle.model.specs.Questions.{sheet_questions_under, first_no, refusal_under}
use Rattle.model.specs.Questions.{accepted_under}
use Rattle.model.specs.Earlier.{instead, strict_order, strict_refusal, strictly_accepted}
use Rattle.model.specs.Report.{answer_under, bytes_under, table_under}
use Rattle.model.specs.Demands.{Loosened}
use Rattle.model.proofs.QuestionLaws.{none-no}
use Rattle.layout.proofs.Shapes.{ascending-none, ascending-first, ascending-put}

-- what is in order by larger steps is so by smaller ones
module _ (d e n : ℕ) (le : e ≤ d) where
  ascending-looser : (low low' : ℕ) (ts : List ℕ) → low' ≤ low → ascending d low n ts ≡ true →
      ascending e low' n ts ≡ true
  ascending-looser low low' [] less h = ascending-none e low' n
  ascending-looser low low' (t ∷ ts) less h =
      let (above, below, more) = ascending-first d low n t ts h in
      ascending-put e low' n t ts (omega arith) below (ascending-looser (t + d) (t + e) ts (omega arith) more)

  successors-looser : (low : ℕ) (node : Node) → successors_in_order d low n node ≡ true → successors_in_order e low n node ≡ true
  unfolding successors_in_order
  successors-looser low (terminal cost) h = refl
  successors-looser low (decision form acts) h =
      true-every _ _ (λ i l. ascending-looser low low _ (omega arith) (every_true _ _ h i l))

apart-few : (k : Kind) → apart k ≤ 1
unfolding apart
apart-few worst = omega arith
apart-few whole = omega arith

-- question 6 as it was, and as it is
pub strict-in-order : (p : Problem) → in_order 1 p ≡ true → question6 p ≡ true
unfolding question6
strict-in-order p h =
    true-every _ _ (λ s l. successors-looser 1 (apart p.kind) _ (apart-few p.kind) (s + 1) _ (every_true _ _ h s l))

-- Where findings ascend strictly, both are answered yes: what is accepted was accepted then, and a call is refused as it was.
module _ (limit : ℕ) (s : List ℕ) (six : in_order 1 (problem_of s) ≡ true) where
  pub same-accepted : strictly_accepted limit s ≡ accepted_under limit s
  unfolding strictly_accepted accepted_under first_no instead
  same-accepted = rw (six, strict-in-order (problem_of s) six)

  same-refusal : (entries budget : ℕ) → refusal_under limit s entries budget ≡ strict_refusal limit s entries budget
  unfolding refusal_under strict_refusal first_no instead
  same-refusal entries budget = rw (six, strict-in-order (problem_of s) six)

module _ (limit : ℕ) (s : List ℕ) (acc : strictly_accepted limit s ≡ true) where
  -- question 6 is the sixth of those about the sheet alone
  pub strict-six : in_order 1 (problem_of s) ≡ true
  unfolding strictly_accepted instead
  strict-six = (none-no (instead (strict_order s) (sheet_questions_under limit s)) refl (eqb-true _ _ acc)).1.1.1.1.1.0

  -- whatever was accepted then is accepted, with the same answer, bytes and table
  pub order-loosened : Loosened limit s
  unfolding answer_under bytes_under table_under
  order-loosened = record {
    still_accepted = sym (same-accepted limit s strict-six) ∙ acc;
    same_answer = λ entries budget. rw (same-refusal limit s strict-six entries budget);
    same_bytes = λ entries budget. rw (same-refusal limit s strict-six entries budget);
    same_table = λ t budget. rw (same-refusal limit s strict-six (length t) budget);
  }
