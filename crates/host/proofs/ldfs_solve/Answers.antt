-- A result too short, a table too short, and else the work.
use mathlib.Core.Path.{◌∙◌}
use native.Mathlib.Omega.{arith}
use Rattle.host.proofs.Hosted.{no_room, short-table, enough-table, serves-few, serves-all}
use Rattle.host.specs.Served.{Worked}
use Rattle.host.proofs.ldfs_solve.Goals as goal
use Rattle.host.proofs.ldfs_solve.Goals.{then-has_few, else-has_few}

pub returns-then-res-lt-RESULT_BYTES : goal.returns-then-res-lt-RESULT_BYTES
returns-then-res-lt-RESULT_BYTES c = let every = no_room c.args.sheet.now c.args.table.now c.args.budget c.args.res.now
    c.if-res-lt-RESULT_BYTES.true in
    record { number = c.number.ensures ∙ every.0; sheet = every.1.0; table = every.1.1.0; res = every.1.1.1 }

pub returns-then-table-lt-TABLE_BYTES : goal.returns-then-table-lt-TABLE_BYTES
returns-then-table-lt-TABLE_BYTES c = let every = short-table c.args.sheet.now c.args.table.now c.args.budget c.args.res.now
    c.if-res-lt-RESULT_BYTES.false c.refusal.result _
    c.put_answer.ensures
    (omega (arith, c.if-table-lt-TABLE_BYTES.true)) (rw c.number-then-table-lt-TABLE_BYTES.ensures at c.refusal.ensures) in
    record { number = c.number-then-table-lt-TABLE_BYTES-2.ensures ∙ every.0; sheet = every.1.0; table = every.1.1.0; res = every.1.1.1 }

pub solve_with-a-requires : goal.solve_with-a-requires
solve_with-a-requires c = serves-few _ _ (omega (arith, c.if-table-lt-TABLE_BYTES.false)) (c.has_few.ensures c.if-has_few.true)

pub solve_with-a-requires-else-has_few : goal.solve_with-a-requires-else-has_few
solve_with-a-requires-else-has_few c = serves-all _ _ (omega (arith, c.if-table-lt-TABLE_BYTES.false))

pub returns : goal.returns
returns c =
    let worked : Worked c.args.sheet.now c.args.table.now c.args.budget c.if-has_few.a c.if-has_few.sheet c.if-has_few.table =
    elim c.if-has_few.branch [
      | then-has_few w ↦ rw (w.a-is, w.sheet-is, w.table-is) w.solve_with-a.ensures
      | else-has_few w ↦ rw (w.a-is, w.sheet-is, w.table-is) w.solve_with-a-else-has_few.ensures
    ] in
    let every = enough-table c.args.sheet.now c.args.table.now c.args.budget c.args.res.now c.if-res-lt-RESULT_BYTES.false _ _
    c.put_answer-2.ensures (omega (arith, c.if-table-lt-TABLE_BYTES.false)) _ _ _ worked c.outcome_number.ensures in
    record { number = every.0; sheet = every.1.0; table = every.1.1.0; res = every.1.1.1 }
