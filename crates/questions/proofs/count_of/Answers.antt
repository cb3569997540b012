use mathlib.Core.Path.{sym, ◌∙◌}
use native.Mathlib.Omega.{arith}
use Rattle.layout.proofs.Index.{states-read}
use Rattle.questions.proofs.count_of.Goals as goal

pub returns : goal.returns
returns c = (c.from.ensures ∙ c.get16.ensures ∙ sym (states-read _), omega (arith, c.from.ensures))
