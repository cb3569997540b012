use Rattle.std.proofs.Common.{rules}
use Rattle.sheet.specs.Sheet.{of_kind}
use Rattle.sheet.proofs.pricing.of_kind.Goals as goal

pub returns-in-Worst : goal.returns-in-Worst
unfolding of_kind
returns-in-Worst c = search rules

pub returns-in-Whole : goal.returns-in-Whole
unfolding of_kind
returns-in-Whole c = search rules
