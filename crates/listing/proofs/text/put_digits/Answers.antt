use native.Mathlib.Omega.{arith}
use Rattle.listing.proofs.Writing.{no_digit, next-digit, all_digits}
use Rattle.listing.proofs.text.put_digits.Goals as goal

pub loop-i-init : goal.loop-i-init
loop-i-init c = no_digit _ _ c.requires

pub loop-i-preserved : goal.loop-i-preserved
loop-i-preserved c = next-digit _ c.loop-i.invariant c.loop-i-test.true (omega arith) c.last_digit.ensures

pub returns : goal.returns
returns c = all_digits c.loop-i.invariant c.loop-i-test.false
