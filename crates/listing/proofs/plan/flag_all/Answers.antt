use Rattle.std.proofs.Common.{◌∙◌, sym}
use lib.ListN.{length-set}
use Rattle.sheet.proofs.Laws.{below-rest}
use Rattle.listing.proofs.Reaching.{flagged-none, flagged-first}
use Rattle.listing.proofs.plan.flag_all.Goals as goal

pub loop-t-preserved : goal.loop-t-preserved
loop-t-preserved c = record {
  up = flagged-first _ c.in-Some.ensures.steps ∙ c.loop-t.invariant.up;
  below = rw length-set (below-rest c.in-Some.ensures.steps c.loop-t.invariant.below);
}

pub returns : goal.returns
returns c = sym (flagged-none _) ∙ (rw c.in-None.ensures.steps.0 at c.loop-t.invariant.up)
