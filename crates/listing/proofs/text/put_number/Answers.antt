use mathlib.Core.Path.{◌≡◌, ◌∙◌}
use lib.ListN.{length}
use borrow.Author.Rules.{rules}
use Rattle.listing.specs.Text.{decimal}
use Rattle.listing.proofs.Widths.{width-digits}
use Rattle.listing.proofs.text.put_number.Goals as goal
use Rattle.listing.proofs.text.put_number.Goals.{After-width}

-- the width is the number of digits
wide : (c : After-width) → c.width.result ≡ length (decimal c.args.x)
wide c = c.width.ensures ∙ width-digits _ c.ranges.x.fits

pub overflow_add-end : goal.overflow_add-end
overflow_add-end c = search (rules, wide c)

pub slice_bounds-put_digits-end : goal.slice_bounds-put_digits-end
slice_bounds-put_digits-end c = search (rules, wide (goal.at.slice_bounds-put_digits-end c).After-width)

pub put_digits-requires : goal.put_digits-requires
put_digits-requires c = search (rules, wide (goal.at.put_digits-requires c).After-width)
