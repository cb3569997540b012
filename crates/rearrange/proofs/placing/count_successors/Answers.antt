use Rattle.rearrange.specs.Waits.{counted}
use Rattle.rearrange.proofs.Tally.{counting-start, counting-next}
use Rattle.rearrange.proofs.placing.count_successors.Goals as goal

pub loop-t-init : goal.loop-t-init
loop-t-init c = rw (c.into_iter-t-iterator.ensures.into_iter_gives, c.successors-t-items.ensures.0)
    (counting-start c.requires.below c.successors-t-items.ensures.2 c.requires.by_index_2)

pub loop-t-preserved : goal.loop-t-preserved
loop-t-preserved c = counting-next (rw c.in-Some.ensures.steps at c.loop-t.invariant)

pub returns-clause-waits_after : goal.returns-clause-waits_after
unfolding counted
returns-clause-waits_after c = (rw c.in-None.ensures.steps.0 at c.loop-t.invariant).rest
