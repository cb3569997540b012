use Rattle.questions.specs.Put.{lowest_of}
use Rattle.questions.proofs.states.lowest_of.Goals as goal

pub returns-then-above : goal.returns-then-above
unfolding lowest_of
returns-then-above c = rw c.if-above.true

pub returns-else-above : goal.returns-else-above
unfolding lowest_of
returns-else-above c = rw c.if-above.false
