-- The entries are read one after the other.
use Rattle.host.proofs.Numbers.{Got}
use Rattle.host.proofs.drafts.get_list.Given as goal

abbrev pub invariant-loop-i : goal.invariant-loop-i
invariant-loop-i l = Got l.bytes l.numbers l.i
