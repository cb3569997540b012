-- The kind's byte is inside, and the kind goes by whether it is 0.
use Rattle.sheet.proofs.Laws.{seen, head-room, kind-worst, kind-whole}
use Rattle.sheet.proofs.fields.Indexed.kind.Goals as goal

pub bounds-self-inside-3 : goal.bounds-self-inside-3
bounds-self-inside-3 c = head-room c.self.invariant

pub returns-then-self-eq-WORST : goal.returns-then-self-eq-WORST
returns-then-self-eq-WORST c = kind-worst c.args.self.now (rw c.self.view_is at c.if-self-eq-WORST.true)

pub returns-else-self-eq-WORST : goal.returns-else-self-eq-WORST
returns-else-self-eq-WORST c = kind-whole c.args.self.now (rw c.self.view_is at c.if-self-eq-WORST.false)
