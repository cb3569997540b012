use mathlib.Core.Path.{refl}
use native.Mathlib.Omega.{arith}
use Rattle.model.specs.Limits.{max_states}
use Rattle.listing.proofs.Reaching.{started}
use Rattle.listing.proofs.plan.put_plan.Goals as goal

pub put_states-requires-clause-by_index : goal.put_states-requires-clause-by_index
put_states-requires-clause-by_index c =
    λ t lt. started _ max_states refl _ _ _ c.start.ensures.number t (omega (arith, lt, c.states-n.ensures.some))
