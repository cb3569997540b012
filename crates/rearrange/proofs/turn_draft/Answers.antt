use Prim.Native.Nat.{ℕ}
use mathlib.Core.Path.{◌≡◌, refl, sym, ap, ◌∙◌}
use mathlib.Core.List.{List}
use native.Mathlib.Omega.{arith}
use Rattle.std.proofs.Common.{Err}
use Rattle.std.proofs.lemmas.Result.{err_from_is_err_and}
use Rattle.model.specs.Format.{draft_tag}
use Rattle.model.specs.Read.{problem_of, cells_of}
use Rattle.model.specs.Questions.{question6_draft, Question, first_no}
use Rattle.order.specs.Asking.{question11, turn_states, draft_questions, rearranged_bytes}
use Rattle.questions.specs.Verdicts.{verdict}
use Rattle.questions.proofs.Asking.{Fielded, fielded, accepted-none, then-more, first_of}
use Rattle.rearrange.proofs.Turning.{zeros-asks, given-none, list-none, given-some, list-some}
use Rattle.rearrange.proofs.turn_draft.Goals as goal
use Rattle.rearrange.proofs.turn_draft.Goals.{In_ok-ask_fields, In_err-ask_fields}

-- the questions about the states of a draft
abbrev of_states : List ℕ → List Question
of_states s = turn_states (problem_of s) (cells_of s) (λ _. question6_draft (problem_of s)) (λ _. question11 (problem_of s))

-- the fields are in place, and the verdict on the states is that on all
in_place : (c : In_ok-ask_fields) → Fielded c.args.sheet.now c.ask_fields.new.table
in_place c =
    let is = c.in_ok-ask_fields.ensures.value in
    fielded draft_tag _ _ _ _ (omega arith) (λ i. (c.type_inv.sheet i).fits) (accepted-none _ (sym is))
    c.in_ok-ask_fields.ensures.table_after

then-all : (c : In_ok-ask_fields) → let s = c.args.sheet.now in verdict (first_no (of_states s)) ≡ verdict (first_no (draft_questions s))
then-all c = ap verdict (sym (then-more _ _ refl (sym c.in_ok-ask_fields.ensures.value)))

-- refused by the fields
by_fields : (c : In_err-ask_fields) → Err c.in_err-ask_fields.field-0.0 ≡ verdict (first_no (draft_questions c.args.sheet.now))
by_fields c = first_of _ (of_states c.args.sheet.now) refl _ (sym c.in_err-ask_fields.ensures.value)

pub returns-in_err-ask_fields : goal.returns-in_err-ask_fields
returns-in_err-ask_fields c =
    let p = err_from_is_err_and c.from_residual.result c.from_residual.ensures.1 in
    let s = c.args.sheet.now in
    let err = by_fields (goal.at.returns-in_err-ask_fields c).In_err-ask_fields in record {
      value = rw (p.1, p.2) err;
      output_after = given-some _ _ err (rearranged_bytes s) c.args.output.now;
      list_after = list-some _ _ err s c.args.list.now;
      table_after = rw p.1 tt;
    }

pub new-draft-requires : goal.new-draft-requires
new-draft-requires c = (in_place c).within.sheet

pub ask_draft-requires : goal.ask_draft-requires
ask_draft-requires c =
    let zeros = zeros-asks (in_place (goal.at.ask_draft-requires c).In_ok-ask_fields) in
    rw c.new-draft.ensures record { rooms = (zeros.0, zeros.0); zeros = zeros.1 }

pub returns-in_err-ask_draft : goal.returns-in_err-ask_draft
returns-in_err-ask_draft c =
    let p = err_from_is_err_and c.from_residual-in_err-ask_draft.result c.from_residual-in_err-ask_draft.ensures.1 in
    let s = c.args.sheet.now in
    let all = then-all (goal.at.returns-in_err-ask_draft c).In_ok-ask_fields in
    let err = rw c.new-draft.ensures at c.in_err-ask_draft.ensures.value ∙ all in record {
      value = rw (p.1, p.2) err;
      output_after = given-some _ _ err (rearranged_bytes s) c.args.output.now;
      list_after = list-some _ _ err s c.args.list.now;
      table_after = rw p.1 tt;
    }

pub put_draft-requires : goal.put_draft-requires
put_draft-requires c =
    let most = (in_place (goal.at.put_draft-requires c).In_ok-ask_fields).within.sheet.shaped.most in
    rw c.new-draft.ensures record {
      placed = rw c.new-draft.ensures at c.in_ok-ask_draft.ensures.placed;
      rooms = (c.requires.1, omega (arith, most, c.requires.2));
    }

pub returns : goal.returns
returns c =
    let s = c.args.sheet.now in
    let all = rw c.new-draft.ensures at c.in_ok-ask_draft.ensures.value ∙ then-all (goal.at.returns c).In_ok-ask_fields in record {
      value = all;
      output_after = rw c.new-draft.ensures at c.put_draft.ensures.output_after ∙ given-none _ all (rearranged_bytes s) c.args.output.now;
      list_after = rw c.new-draft.ensures at c.put_draft.ensures.list_after ∙ list-none _ all s c.args.list.now;
      table_after = c.in_ok-ask_fields.ensures.table_after;
    }
