-- The measure is what is left up to the largest number; a power is above 0, so ten times it is more.
use Rattle.std.proofs.Common.{◌-◌, ◌<◌}
use Rattle.numbers.proofs.main.Given as goal

abbrev pub invariant-loop-next : goal.invariant-loop-next
invariant-loop-next l = 0 < l.power

abbrev pub decreases-loop-next : goal.decreases-loop-next
decreases-loop-next l = 18446744073709551615 - l.power
