use mathlib.Core.Path.{refl, sym, ap, ◌∙◌}
use mathlib.Core.Bool.{true}
use Rattle.std.proofs.lemmas.Result.{err_from_is_err_and}
use Rattle.model.specs.Read.{problem_of}
use Rattle.questions.specs.Put.{findings_by}
use Rattle.questions.specs.Verdicts.{verdict}
use Rattle.questions.proofs.Asking.{yes-5-6, findings-inside, then-more, first_of}
use Rattle.questions.proofs.ask_states.Goals as goal

pub returns-in_err-ask_findings : goal.returns-in_err-ask_findings
unfolding findings_by
returns-in_err-ask_findings c =
    let p = err_from_is_err_and c.from_residual.result c.from_residual.ensures.1 in
    rw (p.1, p.2) (first_of _ _ refl _ (sym c.in_err-ask_findings.ensures))

pub ask_marks-requires : goal.ask_marks-requires
ask_marks-requires c =
    let (five, six) = yes-5-6 _ _ _ (sym c.in_ok-ask_findings.ensures) in
    (findings-inside true (problem_of c.args.sheet.now) six, five)

pub returns : goal.returns
unfolding findings_by
returns c =
    c.ask_marks.ensures ∙ ap verdict (sym (then-more _ _ refl (sym c.in_ok-ask_findings.ensures)))
