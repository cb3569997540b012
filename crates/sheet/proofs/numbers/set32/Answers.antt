use Rattle.std.proofs.Common.{arith, refl, ◌≡◌, ◌+◌, ◌-◌, ◌/◌, ◌%◌}
use Rattle.sheet.proofs.Laws.{put32-bytes}
use Rattle.sheet.proofs.numbers.set32.Goals as goal

pub returns : goal.returns
returns c =
    let four : c.args.at + 4 - c.args.at ≡ 4 = omega arith in
    let high : c.args.x / 16777216 % 256 ≡ c.args.x / 16777216 = omega arith in
    rw (c.copy_from_slice.ensures.after, c.to_be_bytes.ensures, four, high, put32-bytes c.args.s.now c.args.at c.args.x c.requires) refl
