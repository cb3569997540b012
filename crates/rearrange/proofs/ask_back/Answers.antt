use mathlib.Core.Path.{◌≡◌, refl, sym, ◌∙◌}
use mathlib.Core.Bool.{true, false}
use native.Mathlib.Omega.{arith}
use Rattle.std.proofs.lemmas.Result.{err_from_is_err_and}
use Rattle.model.specs.Read.{problem_of, cells_of}
use Rattle.model.specs.Questions.{question5}
use Rattle.layout.specs.Shape.{Inside}
use Rattle.questions.specs.Put.{findings_by}
use Rattle.questions.proofs.Asking.{yes-5-6, findings-inside, first_of, on-ok}
use Rattle.rearrange.proofs.Turning.{turn-11, turn-marks, listed_by, back-renumbers}
use Rattle.rearrange.proofs.ask_back.Goals as goal
use Rattle.rearrange.proofs.ask_back.Goals.{In_ok-ask_findings}

-- questions 5 and 6 are answered yes
five : (c : In_ok-ask_findings) → let s = c.args.sheet.now in question5 (problem_of s) (cells_of s) ≡ true
five c = (yes-5-6 _ _ _ (sym c.in_ok-ask_findings.ensures)).0

inside : (c : In_ok-ask_findings) → Inside (problem_of c.args.sheet.now)
inside c = findings-inside true (problem_of c.args.sheet.now) (yes-5-6 _ _ _ (sym c.in_ok-ask_findings.ensures)).1

pub returns-in_err-ask_findings-clause-value : goal.returns-in_err-ask_findings-clause-value
unfolding findings_by
returns-in_err-ask_findings-clause-value c =
    let p = err_from_is_err_and c.from_residual.result c.from_residual.ensures.1 in
    rw (p.1, p.2) (first_of _ _ refl _ (sym c.in_err-ask_findings.ensures))

pub returns-then-not-places-clause-value : goal.returns-then-not-places-clause-value
unfolding findings_by
returns-then-not-places-clause-value c =
    let eleven = listed_by _ _ _ c.states.ensures.number _ false c.places.ensures.value c.if-not-places.true in
    rw c.into.ensures (turn-11 _ _ _ _ c.in_ok-ask_findings.ensures eleven)

pub ask_marks-requires : goal.ask_marks-requires
ask_marks-requires c =
    let at = (goal.at.ask_marks-requires c).In_ok-ask_findings in (inside at, five at)

pub returns-clause-value : goal.returns-clause-value
unfolding findings_by
returns-clause-value c =
    let eleven = listed_by _ _ _ c.states.ensures.number _ true c.places.ensures.value c.if-not-places.false in
    c.ask_marks.ensures ∙ turn-marks _ _ _ _ c.in_ok-ask_findings.ensures eleven

pub returns-clause-inside : goal.returns-clause-inside
returns-clause-inside c =
    let numbers = rw c.states.ensures.number at (c.places.ensures.after c.if-not-places.false) in
    let all = rw c.states.ensures.number at (sym c.places.ensures.value ∙ c.if-not-places.false) in
    on-ok c.ask_marks.result
    (λ _. (
      inside (goal.at.returns-clause-inside c).In_ok-ask_findings,
      back-renumbers _ _ _ c.requires.rooms.0 (omega (arith, c.places.ensures.len_unchanged, c.requires.rooms.1)) numbers all,
      numbers,
    ))
