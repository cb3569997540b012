use native.Mathlib.Omega.{arith}
use Rattle.model.specs.Read.{problem_of}
use Rattle.rearrange.proofs.Walking.{decides, over-next, over-index, over-more, over-is, over-end}
use Rattle.rearrange.proofs.Tally.{tally-start, tally-length, tally-end, tally-room, tally-next, checks-below, nothing-counted}
use Rattle.rearrange.proofs.placing.count_state.Goals as goal

pub returns-then-is_terminal : goal.returns-then-is_terminal
returns-then-is_terminal c =
    let none = nothing-counted (problem_of c.args.sheet.now) c.args.state c.is_terminal.ensures c.if-is_terminal.true c.args.waits.now in
    record { waits_after = none.0; few = none.1 }

pub actions-action-items-requires : goal.actions-action-items-requires
actions-action-items-requires c = decides _ _ c.requires.below c.is_terminal.ensures c.if-is_terminal.false

pub loop-action-init : goal.loop-action-init
loop-action-init c = rw c.into_iter-action-iterator.ensures.into_iter_gives record {
  over = record { bytes = c.actions-action-items.ensures.0; state = c.actions-action-items.ensures.1 };
  tally = rw c.actions-action-items.ensures.2 (tally-start _ _);
}

pub count_successors-requires : goal.count_successors-requires
count_successors-requires c =
    let over = c.loop-action.invariant.over in
    let tally = c.loop-action.invariant.tally in
    let comes = c.in-Some.ensures.steps in
    let d = decides c.args.sheet.now c.args.state c.requires.below c.is_terminal.ensures c.if-is_terminal.false in record {
      below = checks-below d c.requires.inside.0 (omega (arith, tally-length tally, c.requires.inside.1)) (over-more over comes)
          (over-is over comes);
      by_index_2 = tally-room tally c.actions-action-items.ensures.3 (over-more over comes) c.requires.by_index;
    }

pub loop-action-preserved : goal.loop-action-preserved
loop-action-preserved c =
    let over = c.loop-action.invariant.over in
    let comes = c.in-Some.ensures.steps in record {
      over = over-next over comes;
      tally = tally-next c.loop-action.invariant.tally (over-more over comes) (over-is over comes) c.count_successors.ensures.waits_after
          c.count_successors.ensures.few (over-index over comes);
    }

pub returns : goal.returns
returns c =
    let all = tally-end c.loop-action.invariant.tally (over-end c.loop-action.invariant.over c.in-None.ensures.steps.0)
    c.actions-action-items.ensures.3 in
    record { waits_after = all.0; few = all.1 }
