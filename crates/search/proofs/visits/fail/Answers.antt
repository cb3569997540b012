-- The least price is that of the sheet's problem, and the update is the last step.
use native.Mathlib.Omega.{arith}
use Rattle.search.proofs.Updates.{value_room}
use Rattle.search.proofs.visits.fail.Goals as goal

pub update-requires : goal.update-requires
update-requires c = omega (arith, value_room c.requires.opens)
