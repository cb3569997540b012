use native.Mathlib.Omega.{arith}
use borrow.Author.Rules.{rules}
use Rattle.listing.proofs.Widths.{width-digits}
use Rattle.listing.proofs.Writing.{number_fits, number-long}
use Rattle.listing.proofs.write_number.Goals as goal

pub put_digits-requires : goal.put_digits-requires
put_digits-requires c = search (rules, width-digits _ c.ranges.x.fits, c.width-n.ensures)

pub returns-then-n-out-clause-text : goal.returns-then-n-out-clause-text
returns-then-n-out-clause-text c = number_fits _ _ _ c.width-n.ensures (omega (arith, c.if-n-out.true)) c.put_digits.ensures

pub returns-else-n-out-clause-text : goal.returns-else-n-out-clause-text
returns-else-n-out-clause-text c = number-long _ _ _ c.width-n.ensures (omega (arith, c.if-n-out.false))
