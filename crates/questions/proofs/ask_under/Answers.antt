use mathlib.Core.Path.{refl, sym, ap, ◌∙◌}
use Rattle.std.proofs.lemmas.Result.{err_from_is_err_and}
use Rattle.model.specs.Format.{head_tag}
use Rattle.questions.specs.Verdicts.{verdict}
use Rattle.questions.proofs.Asking.{Fielded, fielded, accepted-none, then-more, first_of}
use Rattle.questions.proofs.ask_under.Goals as goal
use Rattle.questions.proofs.ask_under.Goals.{In_ok-ask_fields}

-- the fields are in place
in_place : (c : In_ok-ask_fields) → Fielded c.args.sheet.now c.ask_fields.new.table
in_place c =
    let is = c.in_ok-ask_fields.ensures.value in
    fielded head_tag _ _ _ _ c.requires.1 (λ i. (c.type_inv.sheet i).fits) (accepted-none _ (sym is)) c.in_ok-ask_fields.ensures.table_after

pub returns-in_err-ask_fields-clause-value : goal.returns-in_err-ask_fields-clause-value
returns-in_err-ask_fields-clause-value c =
    let p = err_from_is_err_and c.from_residual.result c.from_residual.ensures.1 in
    rw (p.1, p.2) (first_of _ _ refl _ (sym c.in_err-ask_fields.ensures.value))

pub new-requires : goal.new-requires
new-requires c = (in_place (goal.at.new-requires c).In_ok-ask_fields).within.sheet

pub returns-clause-value : goal.returns-clause-value
returns-clause-value c =
    rw c.new.ensures at c.ask_states.ensures ∙ ap verdict (sym (then-more _ _ refl (sym c.in_ok-ask_fields.ensures.value)))
