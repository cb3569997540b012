-- The listing that `list` answers is within the buffer.
use Rattle.std.proofs.Common.{◌≤◌, length, sym, length-take-le}
use Rattle.listing.proofs.Answers.{listed-fits}
use Rattle.price.proofs.price.Goals as goal
use Rattle.price.proofs.price.Goals.{In-Some}

fits : (g : _) (c : In-Some g) → c.in-Some.listing.length ≤ length c.list.new.out
fits g c = listed-fits _ _ _ _ c.in-Some.ensures.answer _ c.in-Some.ensures.text

pub slice_bounds-out-end : goal.slice_bounds-out-end
slice_bounds-out-end g c = fits g c

pub slice_bounds-write-end : goal.slice_bounds-write-end
slice_bounds-write-end g c = sym (length-take-le _ _ (fits g (goal.at.slice_bounds-write-end g c).In-Some))
