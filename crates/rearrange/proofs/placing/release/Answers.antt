use Rattle.model.specs.Read.{problem_of}
use Rattle.rearrange.proofs.Walking.{decides, over-next, over-index, over-more, over-is, over-end}
use Rattle.rearrange.proofs.Releasing.{releasing-start, releasing-end, releasing-enough, releasing-next, nothing-found}
use Rattle.rearrange.proofs.placing.release.Goals as goal

pub returns-then-is_terminal-clause-waits_after : goal.returns-then-is_terminal-clause-waits_after
returns-then-is_terminal-clause-waits_after c =
    nothing-found (problem_of c.args.sheet.now) c.args.state c.is_terminal.ensures c.if-is_terminal.true _

pub actions-action-items-requires : goal.actions-action-items-requires
actions-action-items-requires c = decides _ _ c.requires.below c.is_terminal.ensures c.if-is_terminal.false

pub loop-action-init : goal.loop-action-init
loop-action-init c = rw c.into_iter-action-iterator.ensures.into_iter_gives record {
  over = record { bytes = c.actions-action-items.ensures.0; state = c.actions-action-items.ensures.1 };
  releasing = rw c.actions-action-items.ensures.2 (releasing-start _ _ _ c.requires.by_index_2);
}

pub release_successors-least-requires : goal.release_successors-least-requires
release_successors-least-requires c =
    let over = c.loop-action.invariant.over in
    let comes = c.in-Some.ensures.steps in record {
      by_index = releasing-enough c.loop-action.invariant.releasing (over-more over comes) (over-is over comes) c.requires.by_index;
      by_index_2 = c.loop-action.invariant.releasing.waits;
    }

pub loop-action-preserved : goal.loop-action-preserved
loop-action-preserved c =
    let over = c.loop-action.invariant.over in
    let comes = c.in-Some.ensures.steps in record {
      over = over-next over comes;
      releasing = releasing-next c.loop-action.invariant.releasing (over-more over comes) (over-is over comes)
          c.release_successors-least.ensures.waits_after c.release_successors-least.ensures.upper_bound (over-index over comes);
    }

pub returns-clause-waits_after : goal.returns-clause-waits_after
returns-clause-waits_after c =
    releasing-end c.loop-action.invariant.releasing (over-end c.loop-action.invariant.over c.in-None.ensures.steps.0)
