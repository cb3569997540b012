use mathlib.Core.Path.{◌≡◌, sym, ◌∙◌}
use native.Mathlib.Omega.{arith}
use lib.ListN.{length, replicate}
use Rattle.std.proofs.Common.{rules}
use Rattle.rearrange.proofs.Lending.{room_says, rearrange-short, rearrange-done, rearrange-refused}
use Rattle.rearrange.proofs.rearrange.Goals as goal

pub returns-then-not-has_room : goal.returns-then-not-has_room
returns-then-not-has_room c =
    let every = rearrange-short _ _ _ _ (sym c.has_room.ensures ∙ c.if-not-has_room.true) in
    record { answer = rw c.into.ensures every.0; output = every.1.0; list = every.1.1.0; table = every.1.1.1 }

pub turn_draft-turned-requires : goal.turn_draft-turned-requires
turn_draft-turned-requires c =
    let (table, output, list) = room_says _ _ _ _ (sym c.has_room.ensures ∙ c.if-not-has_room.false) in
    (omega (arith, table, c.fill.ensures.len), output, list)

pub returns-then-is_err : goal.returns-then-is_err
returns-then-is_err c =
    let made = c.turn_draft-turned.ensures in
    let zeros : c.fill-then-is_err.new.self ≡ replicate (length c.args.table.now) 0 = search rules in
    let one = sym c.has_room.ensures ∙ c.if-not-has_room.false in
    let every = rearrange-refused c.args.sheet.now c.args.table.now c.args.output.now c.args.list.now one made.value
    made.output_after made.list_after (sym c.is_err.ensures.value ∙ c.if-is_err.true) zeros in
    record { answer = every.0; output = every.1.0; list = every.1.1.0; table = every.1.1.1 }

pub returns-else-is_err : goal.returns-else-is_err
returns-else-is_err c =
    let made = rw (c.fill.ensures.after (λ _ e. e)) at c.turn_draft-turned.ensures in
    let one = sym c.has_room.ensures ∙ c.if-not-has_room.false in
    let every = rearrange-done c.args.sheet.now c.args.table.now c.args.output.now c.args.list.now one made.value
    made.output_after made.list_after (sym c.is_err.ensures.value ∙ c.if-is_err.false) made.table_after in
    record { answer = every.0; output = every.1.0; list = every.1.1.0; table = every.1.1.1 }
