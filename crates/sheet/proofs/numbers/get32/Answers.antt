use Rattle.std.proofs.Common.{rules}
use Rattle.model.specs.Format.{be32}
use Rattle.sheet.proofs.numbers.get32.Goals as goal

pub returns : goal.returns
unfolding be32
returns c = search rules
