-- The work where there is room, and else the refusal.
use mathlib.Core.Path.{sym, ◌∙◌}
use native.Mathlib.Omega.{arith}
use Rattle.host.proofs.HostedDrafts.{lent-own, rearrange-no-room, rearranged-refused, rearranged-done}
use Rattle.host.proofs.drafts.ldfs_rearrange.Goals as goal

pub returns-then-not-has_room : goal.returns-then-not-has_room
returns-then-not-has_room c = let every = rearrange-no-room _ _ _ _ (sym c.has_room.ensures ∙ c.if-not-has_room.true) in
    record { number = c.number.ensures ∙ every.0; table = every.1.0; output = every.1.1.0; list = every.1.1.1 }

pub put_table-requires : goal.put_table-requires
put_table-requires c = let own = lent-own c.has_room.ensures c.if-not-has_room.false in omega (arith, own.index_fits)

pub put_table-requires-in-Ok : goal.put_table-requires-in-Ok
put_table-requires-in-Ok c = let own = lent-own c.has_room.ensures c.if-not-has_room.false in omega (arith, own.list_fits)

pub returns-in-Ok : goal.returns-in-Ok
returns-in-Ok c =
    let own = lent-own c.has_room.ensures c.if-not-has_room.false in
    let made = c.rearrange-v.ensures in
    let every = rearranged-done own made.table c.put_table.ensures made.output (sym c.in-Ok.is ∙ made.answer) made.list
    c.put_table-in-Ok.ensures in
    record { number = every.0; table = every.1.0; output = every.1.1.0; list = every.1.1.1 }

pub returns-in-Err : goal.returns-in-Err
returns-in-Err c =
    let own = lent-own c.has_room.ensures c.if-not-has_room.false in
    let made = c.rearrange-v.ensures in
    let every = rearranged-refused own made.table c.put_table.ensures made.output (sym c.in-Err.is ∙ made.answer) in
    record { number = c.number-in-Err.ensures ∙ every.0; table = every.1.0; output = every.1.1.0; list = every.1.1.1 }
