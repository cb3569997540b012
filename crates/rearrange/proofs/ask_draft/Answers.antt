use mathlib.Core.Path.{◌≡◌, refl, sym, ◌∙◌}
use mathlib.Core.Bool.{true, false}
use native.Mathlib.Omega.{arith}
use Rattle.std.proofs.lemmas.Result.{err_from_is_err_and}
use Rattle.model.specs.Read.{problem_of, cells_of}
use Rattle.model.specs.Questions.{question5}
use Rattle.layout.specs.Shape.{Inside}
use Rattle.questions.specs.Put.{findings_by}
use Rattle.questions.proofs.Asking.{yes-5-6, findings-inside, first_of, on-ok}
use Rattle.rearrange.proofs.Turning.{turn-11, turn-marks, placed-all, placed-some, all-places}
use Rattle.rearrange.proofs.ask_draft.Goals as goal
use Rattle.rearrange.proofs.ask_draft.Goals.{In_ok-ask_findings}

-- questions 5 and 6 are answered yes
five : (c : In_ok-ask_findings) → let s = c.args.sheet.now in question5 (problem_of s) (cells_of s) ≡ true
five c = (yes-5-6 _ _ _ (sym c.in_ok-ask_findings.ensures)).0

inside : (c : In_ok-ask_findings) → Inside (problem_of c.args.sheet.now)
inside c = findings-inside false (problem_of c.args.sheet.now) (yes-5-6 _ _ _ (sym c.in_ok-ask_findings.ensures)).1

pub returns-in_err-ask_findings-clause-value : goal.returns-in_err-ask_findings-clause-value
unfolding findings_by
returns-in_err-ask_findings-clause-value c =
    let p = err_from_is_err_and c.from_residual.result c.from_residual.ensures.1 in
    rw (p.1, p.2) (first_of _ _ refl _ (sym c.in_err-ask_findings.ensures))

pub count_all-requires-clause-inside : goal.count_all-requires-clause-inside
count_all-requires-clause-inside c = inside (goal.at.count_all-requires-clause-inside c).In_ok-ask_findings

pub place_all-placed-requires-clause-inside : goal.place_all-placed-requires-clause-inside
place_all-placed-requires-clause-inside c = inside (goal.at.place_all-placed-requires-clause-inside c).In_ok-ask_findings

pub ask_marks-requires : goal.ask_marks-requires
ask_marks-requires c =
    let at = (goal.at.ask_marks-requires c).In_ok-ask_findings in (inside at, five at)

-- before the answer where a circle is refused, which a circle let through leaves true: this is what it breaks
pub returns-clause-value : goal.returns-clause-value
unfolding findings_by
returns-clause-value c =
    let eleven = placed-all _ _ _ c.states-n.ensures.number c.place_all-placed.ensures.value c.if-placed-n.false in
    c.ask_marks.ensures ∙ turn-marks _ _ _ _ c.in_ok-ask_findings.ensures eleven

pub returns-then-placed-n-clause-value : goal.returns-then-placed-n-clause-value
unfolding findings_by
returns-then-placed-n-clause-value c =
    let eleven = placed-some _ _ _ c.states-n.ensures.number c.place_all-placed.ensures.value c.if-placed-n.true in
    rw c.into.ensures (turn-11 _ _ _ _ c.in_ok-ask_findings.ensures eleven)

pub returns-clause-placed : goal.returns-clause-placed
returns-clause-placed c =
    let all = c.if-placed-n.false ∙ c.states-n.ensures.number in
    on-ok c.ask_marks.result
    (λ _. record {
      inside = inside (goal.at.returns-clause-placed c).In_ok-ask_findings;
      full = sym c.place_all-placed.ensures.value ∙ all;
      long = omega (arith, c.requires.rooms.1);
      wide = omega (arith, c.count_all.ensures.waits_len_unchanged, c.requires.rooms.0);
      places = all-places _ all c.place_all-placed.ensures.after;
      counts = c.place_all-placed.ensures.by_index_2;
    })
