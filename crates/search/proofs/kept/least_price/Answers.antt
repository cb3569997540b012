use Prim.Native.Nat.{min}
use mathlib.Core.Path.{refl, ap, ◌∙◌, sym}
use Rattle.model.specs.Limits.{ceiling}
use Rattle.model.specs.Read.{problem_of}
use Rattle.sheet.proofs.Laws.{actions_at}
use Rattle.sheet.proofs.Joining.{least-turn, least-end}
use Rattle.search.proofs.Actions.{comes-more, comes-is, comes-then, comes-leads}
use Rattle.search.proofs.kept.least_price.Invariants.{prices}
use Rattle.search.proofs.kept.least_price.Goals as goal

pub loop-action-init : goal.loop-action-init
unfolding ceiling
loop-action-init c = rw c.into_iter-action-iterator.ensures.into_iter_gives record {
  bytes = c.actions-action-items.ensures.0;
  state = c.actions-action-items.ensures.1;
  least_is = rw c.actions-action-items.ensures.2 refl;
}

pub price-requires : goal.price-requires
price-requires c =
    let i = c.loop-action.invariant in
    comes-leads i.bytes i.state c.in-Some.ensures.steps c.requires.workable.formed c.requires.decision

pub loop-action-preserved : goal.loop-action-preserved
loop-action-preserved c =
    let s = c.args.sheet.now in
    let i = c.loop-action.invariant in
    let comes = c.in-Some.ensures.steps in
    let x = c.price.ensures.0 ∙ ap (prices s) (comes-is i.bytes i.state comes) in
    let less = c.min-least.ensures ∙ ap (min c.loop-action.least) x in
    rw (comes-then i.bytes i.state comes) record {
      bytes = refl;
      state = refl;
      least_is =
          i.least_is ∙ least-turn (prices s) (actions_at (problem_of s) c.args.state) _ (comes-more i.bytes i.state comes) less;
    }

pub returns : goal.returns
returns c =
    let s = c.args.sheet.now in
    let i = c.loop-action.invariant in
    let all = rw (i.bytes, i.state) at c.in-None.ensures.steps.0 in
    sym (i.least_is ∙ rw all (least-end (prices s) (actions_at (problem_of s) c.args.state) c.loop-action.least))
