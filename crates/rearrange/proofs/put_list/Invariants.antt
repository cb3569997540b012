-- The loop's invariant: the first k numbers are there, and the list is as long as it was.
use Rattle.std.proofs.Common.{◌≡◌, length, take}
use Rattle.rearrange.proofs.put_list.Given as goal

abbrev pub invariant-loop-k : goal.invariant-loop-k
invariant-loop-k l = (take l.k l.list ≡ take l.k l.old) × (length l.list ≡ length l.initial.list)
