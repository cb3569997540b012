-- The code's table passes the one test of all its entries, which computes.
use mathlib.Core.Path.{refl, ◌∙◌}
use Rattle.model.specs.Tests.{also, every}
use Rattle.listing.specs.Width.{power_rule}
use Rattle.listing.proofs.Widths.{rule_fits, width-counts}
use Rattle.listing.proofs.width.width.Goals as goal

pub returns : goal.returns
unfolding power_rule also every
returns c = c.max.ensures ∙ width-counts _ _ _ c.entries.ensures c.ranges.x.fits (rule_fits _ refl refl)
