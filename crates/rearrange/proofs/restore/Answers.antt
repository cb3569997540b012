use mathlib.Core.Path.{◌≡◌, sym, ◌∙◌}
use native.Mathlib.Omega.{arith}
use lib.ListN.{length, replicate}
use Rattle.std.proofs.Common.{rules}
use Rattle.rearrange.proofs.Lending.{room_says, restore-short, restore-done, restore-refused}
use Rattle.rearrange.proofs.restore.Goals as goal

pub returns-then-not-has_room : goal.returns-then-not-has_room
returns-then-not-has_room c =
    let every = restore-short _ _ _ _ (sym c.has_room.ensures ∙ c.if-not-has_room.true) in
    record { answer = rw c.into.ensures every.0; output = every.1.0; table = every.1.1 }

pub turn_back-turned-requires : goal.turn_back-turned-requires
turn_back-turned-requires c =
    let (table, output, list) = room_says _ _ _ _ (sym c.has_room.ensures ∙ c.if-not-has_room.false) in
    (omega (arith, table, c.fill.ensures.len), output, list)

pub returns-then-is_err : goal.returns-then-is_err
returns-then-is_err c =
    let made = c.turn_back-turned.ensures in
    let zeros : c.fill-then-is_err.new.self ≡ replicate (length c.args.table.now) 0 = search rules in
    let one = sym c.has_room.ensures ∙ c.if-not-has_room.false in
    let every = restore-refused c.args.sheet.now c.args.table.now c.args.list.now c.args.output.now one made.value made.output_after
    (sym c.is_err.ensures.value ∙ c.if-is_err.true) zeros in
    record { answer = every.0; output = every.1.0; table = every.1.1 }

pub returns-else-is_err : goal.returns-else-is_err
returns-else-is_err c =
    let made = rw (c.fill.ensures.after (λ _ e. e)) at c.turn_back-turned.ensures in
    let one = sym c.has_room.ensures ∙ c.if-not-has_room.false in
    let every = restore-done c.args.sheet.now c.args.table.now c.args.list.now c.args.output.now one made.value made.output_after
    (sym c.is_err.ensures.value ∙ c.if-is_err.false) made.table_after in
    record { answer = every.0; output = every.1.0; table = every.1.1 }
