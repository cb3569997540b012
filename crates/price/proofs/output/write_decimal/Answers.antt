-- A number's width is at most the buffer's length.
use Rattle.std.proofs.Common.{rules, sym, ◌≤◌, length, length-take-le}
use Rattle.listing.proofs.Widths.{width_few}
use Rattle.price.proofs.output.write_decimal.Goals as goal

pub slice_bounds-text-end : goal.slice_bounds-text-end
slice_bounds-text-end g c = search (rules, width_few c.args.x)

pub slice_bounds-write_all-end : goal.slice_bounds-write_all-end
slice_bounds-write_all-end g c =
    let within : c.write_number-n.result ≤ length c.write_number-n.new.out = search (rules, width_few c.args.x) in
    sym (length-take-le _ _ within)
