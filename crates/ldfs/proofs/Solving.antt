-- From the questions' verdict to the work of a call, and from its end to the answer.
use Prim.Native.Nat.{ℕ, zero, suc, ◌<◌, ◌≤◌}
use mathlib.Core.Path.{◌≡◌, refl, sym, ap, ◌∙◌}
use mathlib.Core.Bool.{Bool, true, false}
use mathlib.Core.List.{List, [], ◌∷◌, ◌++◌}
use native.Mathlib.Omega.{arith}
use borrow.Author.Tests.{lt-ltb, le-ltb, le-leb}
use lib.ListN.{length, replicate, length-append, length-drop, length-replicate}
use Rattle.model.specs.declared.Answer.{Answer}
use Rattle.model.specs.declared.Outcome.{Outcome}
use Rattle.model.specs.declared.Outcome.TheVariants.{Settled, Over, Stopped, None}
use Rattle.model.specs.Tests.{fork}
use Rattle.model.specs.Problem.{Cell, states, cell_of, value_of, solved}
use Rattle.model.specs.Format.{Bytes, head_tag, write}
use Rattle.model.specs.Read.{problem_of, cells_of}
use Rattle.model.specs.Limits.{ceiling, max_states}
use Rattle.model.specs.Questions.{question9, Question, question, check_questions_under, first_no}
use Rattle.model.specs.Questions.{sheet_refusal_under, refusal_under}
use Rattle.model.proofs.QuestionLaws.{AllYes, none-no}
use Rattle.model.specs.Ldfs.{Search, search_of, work}
use Rattle.model.specs.Report.{outcome_at, outcome_of, cells_after, raises_of, refused, on_refusal, answer_under, bytes_under}
use Rattle.model.specs.Report.{refused_table, table_under}
use Rattle.layout.proofs.Index.{states-within, offsets-count}
use Rattle.theory.proofs.LimitLaws.{SheetYes, by_number, sheet-raised, yes-accepted, refusals-left, room-yes, room-no}
use Rattle.theory.proofs.Accepted.{asked-problem, asked-cells}
use Rattle.theory.proofs.Sheets.{Stands, accepted-stands}
use Rattle.sheet.specs.Sheet.{Sheet}
use Rattle.sheet.proofs.Laws.{indexed}
use Rattle.std.proofs.Common.{Ok, Err}
use Rattle.questions.specs.Verdicts.{verdict}
use Rattle.questions.specs.Table.{indexed_before, served_by, served_refusal, asked_table}
use Rattle.questions.proofs.Asking.{cleared, from-cleared, served-most}
use Rattle.search.specs.declared.passes.Passes.{Passes as PassesMade}
use Rattle.ldfs.specs.Made.{Finished, filled_table, Filled, SolvedUnder, Solved}
use Rattle.search.specs.Did.{last_pass, Workable, DidPasses}

-- The answer of work that is done.
search-of : (succeeded : Bool) (w : Search) → search_of (last_pass succeeded w) ≡ w
search-of true w = refl
search-of false w = refl

module _ (s : List ℕ) (budget : ℕ) {t s' : List ℕ} {w : PassesMade}
    (d : DidPasses t (problem_of s) s' w (work (problem_of s) (cells_of s) budget)) where
  cells_left : cells_after (work (problem_of s) (cells_of s) budget) ≡ cells_of s'
  cells_left = rw (← d.said) (ap (λ (v : Search). v.cells) (search-of w.succeeded _))

  raises-made : raises_of (work (problem_of s) (cells_of s) budget) ≡ w.raises
  raises-made = rw (← d.said) (ap (λ (v : Search). v.raises) (search-of w.succeeded _))

  begun-made : (work (problem_of s) (cells_of s) budget).begun ≡ w.begun
  begun-made = rw (← d.said)

  -- the answer that has an outcome, a price, and the passes and raises of the work
  abbrev answered : Outcome → ℕ → Answer
  answered o price = record { outcome = o; price = price; passes = w.begun; raises = w.raises; budget = budget }

  -- by the start's cell
  pub answers : {start price : ℕ} {o : Outcome} → start ≡ (problem_of s).start → price ≡ value_of (cells_of s') start →
      o ≡ outcome_of (cell_of (cells_of s') start) →
      Finished s s' (answered o price) budget
  answers at v e = record {
    bytes = d.sheet.is ∙ ap (write (problem_of s)) (sym cells_left);
    said = rw (cells_left, begun-made, raises-made, ← at, ← e, v);
  }

-- an outcome by the mark and the value of a cell
module _ (c : Cell) {marked : Bool} {price : ℕ} (mark : marked ≡ solved c) (v : price ≡ c.value) where
  pub settled : marked ≡ true → price < 1000000000 → Settled ≡ outcome_of c
  unfolding outcome_of outcome_at ceiling
  settled e lt = rw (← mark, e, ← v, lt-ltb price 1000000000 lt)

  pub no_complete_plan : marked ≡ true → 1000000000 ≤ price → 1000000000 < price → None ≡ outcome_of c
  unfolding outcome_of outcome_at ceiling
  no_complete_plan e le lt = rw (← mark, e, ← v, le-ltb price 1000000000 le, lt-ltb 1000000000 price lt)

  pub over : marked ≡ true → 1000000000 ≤ price → price ≤ 1000000000 → Over ≡ outcome_of c
  unfolding outcome_of outcome_at ceiling
  over e le ge = rw (← mark, e, ← v, le-ltb price 1000000000 le, le-ltb 1000000000 price ge)

  pub stopped : marked ≡ false → Stopped ≡ outcome_of c
  unfolding outcome_of
  stopped e = rw (← mark, e)

-- The verdict, and the refusal of the call.
refused-more : (asked more : List Question) (k : ℕ) → first_no asked ≡ suc k → first_no (asked ++ more) ≡ suc k
unfolding first_no
refused-more [] more k h = absurd (omega arith)
refused-more (ask ∷ asked) more k h = go (ask.answer tt) refl (refused-more asked more k)
  where
    go : (b : Bool) → ask.answer tt ≡ b → (first_no asked ≡ suc k → first_no (asked ++ more) ≡ suc k) →
        first_no ((ask ∷ asked) ++ more) ≡ suc k
    go true e ih = rw e (ih (rw e at h))
    go false e ih = rw e (rw e at h)

-- what the questions about the sheet leave where every answer is yes: the sheet holds bytes, and the table is t'
pub record Asked (s t t' : List ℕ) : Type 0 where
  pub yes : Ok tt ≡ verdict (served_refusal s t)
  pub bytes : Bytes s
  pub table : t' ≡ asked_table s t

-- a call's contract, clause by clause
pub clauses : {A B C : Type 0} → A × (B × C) → record { answer : A; sheet : B; table : C }
clauses f = record { answer = f.0; sheet = f.1.0; table = f.1.1 }

module _ (s t : List ℕ) (budget : ℕ) where
  -- the limit that the table serves, and the refusal under it
  abbrev limit : ℕ
  limit = served_by (length t)

  abbrev refusal-served : ℕ
  refusal-served = refusal_under limit s (length t) budget

  -- by the refusal of the call
  refused-call : (k : ℕ) → refusal-served ≡ suc k → (r : Answer) → r ≡ refused budget (suc k) →
      (t' : List ℕ) → t' ≡ refused_table t (suc k) → Filled s t budget r s t'
  unfolding answer_under bytes_under filled_table on_refusal
  refused-call k e r a t' last = rw e (a, (refl, last))

  worked-call : refusal-served ≡ 0 → (s' t' : List ℕ) (r : Answer) → Finished s s' r budget →
      t' ≡ indexed_before s t → Filled s t budget r s' t'
  unfolding answer_under bytes_under filled_table on_refusal
  worked-call e s' t' r f last = rw e (f.said, (f.bytes, last))

  -- refused by a question about the sheet
  pub refused-by : (n : ℕ) → Err n ≡ verdict (served_refusal s t) → (r : Answer) → r ≡ refused budget n →
      (t' : List ℕ) → t' ≡ asked_table s t → Filled s t budget r s t'
  unfolding verdict asked_table sheet_refusal_under refusal_under on_refusal
  refused-by n e r a t' last = go (served_refusal s t) refl e
    where
      go : (k : ℕ) → served_refusal s t ≡ k → Err n ≡ verdict k → Filled s t budget r s t'
      go zero z v = let f : ◌≡◌ {A = ℕ} 0 1 = cc in absurd (omega arith)
      go (suc k) z v =
          let same : n ≡ suc k = cc in
          let no = refused-more (check_questions_under limit s (length t)) (question 9 (λ _. question9 budget) ∷ []) k z in
          refused-call k no r (a ∙ ap (refused budget) same) t' (last ∙ rw z)

-- accepted by the questions about the sheet
module _ {s t t' : List ℕ} (asked : Asked s t t') where
  none : served_refusal s t ≡ 0
  unfolding verdict
  none = go (served_refusal s t) asked.yes
    where
      go : (k : ℕ) → Ok tt ≡ verdict k → k ≡ 0
      go zero v = refl
      go (suc k) v = let f : ◌≡◌ {A = ℕ} 0 1 = cc in absurd (omega arith)

  yes : AllYes (check_questions_under (served_by (length t)) s (length t))
  unfolding sheet_refusal_under
  yes = none-no (check_questions_under (served_by (length t)) s (length t)) refl none

  sheet-yes : SheetYes (served_by (length t)) s
  sheet-yes = by_number (served_by (length t)) s yes.1

  stands : Stands s (problem_of s) (cells_of s)
  stands = accepted-stands s asked.bytes (yes-accepted max_states s (sheet-raised (omega arith) s sheet-yes))

  by-budget : (budget : ℕ) → refusal_under (served_by (length t)) s (length t) budget ≡ fork (question9 budget) (λ _. 0) (λ _. 9)
  by-budget budget = refusals-left (served_by (length t)) s sheet-yes (length t) budget ∙ rw yes.0

  filled : t' ≡ indexed_before s t
  unfolding asked_table on_refusal
  filled = asked.table ∙ rw none

  -- the table is long enough, and as long as it was
  enough : states (problem_of s) ≤ length t
  enough = omega (arith, states-within head_tag s yes.1.1.0)

  long : length t' ≡ length t
  long = rw (filled, length-append, offsets-count 8 (problem_of s).nodes, length-drop) (omega (arith, enough))

  pub in_place : Sheet s t' (problem_of s) (cells_of s)
  in_place = indexed _ stands.is stands.asked.shaped filled

  pub workable : Workable s
  workable = record {
    formed = asked-problem (problem_of s) (cells_of s) stands.asked;
    consistent = asked-cells (problem_of s) (cells_of s) stands.asked;
  }

  pub no-budget : {budget : ℕ} → budget ≡ 0 → {r : Answer} → r ≡ refused budget 9 → {t'' : List ℕ} → t'' ≡ cleared t' →
      Filled s t budget r s t''
  unfolding question9 refused_table
  no-budget {budget} z {r} a {t''} last = refused-call s t budget 8 (by-budget budget ∙ rw z) r a t'' (last ∙ rw long)

  pub worked : {budget : ℕ} → (budget ≡ 0 → ⊥) → {s' : List ℕ} {r : Answer} → Finished s s' r budget → Filled s t budget r s' t'
  unfolding question9
  worked {budget} z {s'} {r} f =
      worked-call s t budget (by-budget budget ∙ rw (le-leb 1 budget (omega arith))) s' t' r f filled

-- From a table that was cleared to any table.
module _ (s t : List ℕ) (budget : ℕ) where
  pub refused-short : length t < max_states → (r : Answer) → r ≡ refused budget 1 → Solved s t budget r s t
  unfolding answer_under bytes_under table_under on_refusal refused_table
  refused-short h r a = rw (room-no max_states s (length t) budget h) (a, (refl, refl))

  from-zeros : {r : Answer} {s' t' : List ℕ} → Filled s (cleared t) budget r s' t' →
      SolvedUnder (served_by (length t)) s t budget r s' t'
  unfolding filled_table table_under
  from-zeros f =
      let long : length (cleared t) ≡ length t = length-replicate (length t) 0 in
      let limit = served_by (length t) in
      let number = room-yes limit s (length t) budget (omega arith) in
      let table = rw long at f.1.1 in
      (rw long at f.0, (rw long at f.1.0, table ∙ from-cleared s t (refusal_under limit s (length t) budget) number))

  -- a table of as many entries as any sheet may have states serves every sheet
  pub all-from-zeros : max_states ≤ length t → {r : Answer} {s' t' : List ℕ} → Filled s (cleared t) budget r s' t' →
      Solved s t budget r s' t'
  all-from-zeros ge f = rw (served-most (length t) ge) at (from-zeros f)

-- a table of zeros is one that was cleared, and serves as many states as it has entries
pub zeros-solved : (s : List ℕ) (budget m : ℕ) → m ≤ max_states → {r : Answer} {s' t' : List ℕ} →
    Filled s (replicate m 0) budget r s' t' →
    SolvedUnder m s (replicate m 0) budget r s' t'
zeros-solved s budget m few f =
    let same : cleared (replicate m 0) ≡ replicate m 0 = rw length-replicate in
    let limit : served_by (length {A = ℕ} (replicate m 0)) ≡ m = rw (length-replicate {A = ℕ} m 0) (omega arith) in
    rw limit at (from-zeros s (replicate m 0) budget (rw (sym same) at f))
