-- The loop's invariant: the digits from place i on are written, and the others are those of what is left of the number.
use Rattle.listing.proofs.Writing.{Digits}
use Rattle.listing.proofs.text.put_digits.Given as goal

abbrev pub invariant-loop-i : goal.invariant-loop-i
invariant-loop-i l = Digits l.out l.x l.i l.rest
