use native.Mathlib.Omega.{arith}
use Rattle.std.proofs.lemmas.Bool.Decides.{nat_tests}
use Rattle.model.specs.Tests.{all}
use Rattle.order.specs.Asking.{question1_lent}
use Rattle.host.proofs.drafts.has_room.Goals as goal

pub returns-then-output-sheet : goal.returns-then-output-sheet
unfolding question1_lent all
returns-then-output-sheet c = grind (arith, nat_tests)

pub returns-else-output-sheet : goal.returns-else-output-sheet
unfolding question1_lent all
returns-else-output-sheet c = grind (arith, nat_tests)
