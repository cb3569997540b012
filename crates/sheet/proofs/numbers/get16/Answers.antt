use Rattle.std.proofs.Common.{rules}
use Rattle.model.specs.Format.{be16}
use Rattle.sheet.proofs.numbers.get16.Goals as goal

pub returns : goal.returns
unfolding be16
returns c = search rules
