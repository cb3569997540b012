use Rattle.std.proofs.Common.{rules}
use Rattle.listing.specs.Listing.{plan_of}
use Rattle.sheet.specs.Put.{Appended}
use Rattle.listing.proofs.After.{Left, solved-worked, no-plan, too_short, written}
use Rattle.listing.proofs.list.Goals as goal
use Rattle.listing.proofs.list.Goals.{In-Settled, in-Settled, in_default}

pub returns-then-out-lt-ENOUGH : goal.returns-then-out-lt-ENOUGH
returns-then-out-lt-ENOUGH c = let every = too_short _ _ _ c.if-out-lt-ENOUGH.true in
    record { answer = every.0; sheet = every.1.0; table = every.1.1.0; text = every.1.1.1 }

-- a settled call left a sheet that can be listed
left : (c : In-Settled) → Left c.solve-a.new.sheet c.solve-a.new.table
left c =
    solved-worked _ _ _ (λ i. search rules) _ _ _ (c.solve-a.ensures.answer, (c.solve-a.ensures.sheet, c.solve-a.ensures.table))
    c.in-Settled.is

pub new-requires : goal.new-requires
new-requires c = (left (goal.at.new-requires c).In-Settled).sheet

pub put_plan-requires-clause-listable : goal.put_plan-requires-clause-listable
put_plan-requires-clause-listable c = rw c.new.ensures (left (goal.at.put_plan-requires-clause-listable c).In-Settled).listable

pub returns : goal.returns
returns c =
    let plan : Appended c.put_answer.new.page c.match-a.page (plan_of c.solve-a.result.outcome c.solve-a.new.sheet) =
    elim c.match-a.branch [
      | in-Settled w ↦ rw (w.page-is, w.in-Settled.is) (rw w.new.ensures at w.put_plan.ensures)
      | in_default w ↦ rw w.page-is (no-plan c.put_answer.ensures.appended _ _ w.in_default.not-Settled)
    ] in
    let every = written _ _ _ c.if-out-lt-ENOUGH.false _ _ _
    (c.solve-a.ensures.answer, (c.solve-a.ensures.sheet, c.solve-a.ensures.table)) c.new-page.ensures.bytes c.new-page.ensures.end
    c.put_answer.ensures.appended plan in
    record { answer = every.0; sheet = every.1.0; table = every.1.1.0; text = search (rules, every.1.1.1) }
