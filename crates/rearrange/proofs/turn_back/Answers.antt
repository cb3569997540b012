use Prim.Native.Nat.{ℕ}
use mathlib.Core.Path.{◌≡◌, refl, sym, ap, ◌∙◌}
use mathlib.Core.List.{List}
use native.Mathlib.Omega.{arith}
use Rattle.std.proofs.Common.{Err}
use Rattle.std.proofs.lemmas.Result.{err_from_is_err_and}
use Rattle.model.specs.Format.{head_tag}
use Rattle.model.specs.Read.{problem_of, cells_of}
use Rattle.model.specs.Questions.{question6, Question, first_no}
use Rattle.order.specs.Asking.{question11_back, turn_states, back_questions, restored_bytes}
use Rattle.questions.specs.Verdicts.{verdict}
use Rattle.questions.proofs.Asking.{Fielded, fielded, accepted-none, then-more, first_of}
use Rattle.rearrange.proofs.Turning.{zeros-asks, back-turned, given-none, given-some}
use Rattle.rearrange.proofs.turn_back.Goals as goal
use Rattle.rearrange.proofs.turn_back.Goals.{In_ok-ask_fields, In_err-ask_fields}

-- the questions about the states of an ordinary sheet and a list
abbrev of_states : List ℕ → List ℕ → List Question
of_states s l = turn_states (problem_of s) (cells_of s) (λ _. question6 (problem_of s)) (λ _. question11_back (problem_of s) l)

-- the fields are in place, and the verdict on the states is that on all
in_place : (c : In_ok-ask_fields) → Fielded c.args.sheet.now c.ask_fields.new.table
in_place c =
    let is = c.in_ok-ask_fields.ensures.value in
    fielded head_tag _ _ _ _ (omega arith) (λ i. (c.type_inv.sheet i).fits) (accepted-none _ (sym is))
    c.in_ok-ask_fields.ensures.table_after

then-all : (c : In_ok-ask_fields) → let s = c.args.sheet.now in let l = c.args.list.now in
    verdict (first_no (of_states s l)) ≡ verdict (first_no (back_questions s l))
then-all c = ap verdict (sym (then-more _ _ refl (sym c.in_ok-ask_fields.ensures.value)))

-- refused by the fields
by_fields : (c : In_err-ask_fields) →
    Err c.in_err-ask_fields.field-0.0 ≡ verdict (first_no (back_questions c.args.sheet.now c.args.list.now))
by_fields c = first_of _ (of_states c.args.sheet.now c.args.list.now) refl _ (sym c.in_err-ask_fields.ensures.value)

pub returns-in_err-ask_fields : goal.returns-in_err-ask_fields
returns-in_err-ask_fields c =
    let p = err_from_is_err_and c.from_residual.result c.from_residual.ensures.1 in
    let err = by_fields (goal.at.returns-in_err-ask_fields c).In_err-ask_fields in record {
      value = rw (p.1, p.2) err;
      output_after = given-some _ _ err (restored_bytes c.args.sheet.now c.args.list.now) c.args.output.now;
      table_after = rw p.1 tt;
    }

pub new-ordinary-requires : goal.new-ordinary-requires
new-ordinary-requires c = (in_place c).within.sheet

pub ask_back-requires : goal.ask_back-requires
ask_back-requires c =
    let placed = in_place (goal.at.ask_back-requires c).In_ok-ask_fields in
    let zeros = zeros-asks placed in rw c.new-ordinary.ensures record {
      rooms = (omega (arith, placed.within.sheet.shaped.most, c.requires.2), zeros.0);
      zeros = zeros.1;
    }

pub returns-in_err-ask_back : goal.returns-in_err-ask_back
returns-in_err-ask_back c =
    let p = err_from_is_err_and c.from_residual-in_err-ask_back.result c.from_residual-in_err-ask_back.ensures.1 in
    let all = then-all (goal.at.returns-in_err-ask_back c).In_ok-ask_fields in
    let err = rw c.new-ordinary.ensures at c.in_err-ask_back.ensures.value ∙ all in record {
      value = rw (p.1, p.2) err;
      output_after = given-some _ _ err (restored_bytes c.args.sheet.now c.args.list.now) c.args.output.now;
      table_after = rw p.1 tt;
    }

pub returns : goal.returns
returns c =
    let s = c.args.sheet.now in
    let l = c.args.list.now in
    let out = c.args.output.now in
    let (_, _, numbers) = rw c.new-ordinary.ensures at c.in_ok-ask_back.ensures.inside in
    let all = rw c.new-ordinary.ensures at c.in_ok-ask_back.ensures.value ∙ then-all (goal.at.returns c).In_ok-ask_fields in record {
      value = all;
      output_after = rw c.new-ordinary.ensures at c.put_sheet.ensures ∙ back-turned s _ _ l out refl numbers ∙
          given-none _ all (restored_bytes s l) out;
      table_after = c.in_ok-ask_fields.ensures.table_after;
    }
