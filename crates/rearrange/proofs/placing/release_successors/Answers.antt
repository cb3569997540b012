use Rattle.rearrange.specs.Waits.{lessened}
use Rattle.rearrange.proofs.Releasing.{lowering-start, some_left, lowering-next}
use Rattle.rearrange.proofs.placing.release_successors.Goals as goal

pub loop-t-init : goal.loop-t-init
loop-t-init c = rw (c.into_iter-t-iterator.ensures.into_iter_gives, c.successors-t-items.ensures.0)
    (lowering-start c.requires.by_index c.requires.by_index_2)

pub overflow_sub-w : goal.overflow_sub-w
overflow_sub-w c = some_left (rw c.in-Some.ensures.steps at c.loop-t.invariant)

pub loop-t-preserved : goal.loop-t-preserved
loop-t-preserved c = lowering-next (rw c.in-Some.ensures.steps at c.loop-t.invariant) c.lower-least.ensures

pub returns-clause-waits_after : goal.returns-clause-waits_after
unfolding lessened
returns-clause-waits_after c = (rw c.in-None.ensures.steps.0 at c.loop-t.invariant).rest
