use native.Mathlib.Omega.{arith}
use Rattle.rearrange.proofs.Tally.{census-start, census-room, census-next, census-end}
use Rattle.rearrange.proofs.placing.count_all.Goals as goal

pub loop-s-init : goal.loop-s-init
loop-s-init c = census-start _ _

pub count_state-requires-clause-by_index : goal.count_state-requires-clause-by_index
count_state-requires-clause-by_index c = census-room c.loop-s.invariant (omega arith) c.requires.by_index

pub loop-s-preserved : goal.loop-s-preserved
loop-s-preserved c = census-next c.loop-s.invariant (omega arith) c.count_state.ensures.waits_after c.count_state.ensures.few

pub returns-clause-by_index_2 : goal.returns-clause-by_index_2
returns-clause-by_index_2 c = census-end c.loop-s.invariant c.requires.n_value (omega arith) c.requires.by_index
