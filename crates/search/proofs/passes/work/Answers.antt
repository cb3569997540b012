use native.Mathlib.Omega.{arith}
use Rattle.sheet.proofs.Laws.{within}
use Rattle.search.proofs.Trying.{workable}
use Rattle.search.proofs.Passing.{sets-out, bounded, succeeds, halts, falls, fails}
use Rattle.search.proofs.passes.work.Goals as goal

pub loop-raises-init : goal.loop-raises-init
loop-raises-init c = sets-out c.requires.within.sheet c.requires.workable.formed c.requires.workable.consistent

pub overflow_add-begun : goal.overflow_add-begun
overflow_add-begun c = omega (arith, bounded c.loop-raises.invariant)

pub visit-requires : goal.visit-requires
visit-requires c =
    let h = c.loop-raises.invariant in record {
      within = within h.sheet _ c.requires.within.below;
      workable = workable h.sheet h.formed h.leads.ready.consistent;
      raises_le_budget = h.leads.ready.within;
    }

pub returns-in-Success : goal.returns-in-Success
returns-in-Success c = succeeds c.loop-raises.invariant c.requires.start_value c.in-Success.ensures

pub loop-raises-smaller : goal.loop-raises-smaller
loop-raises-smaller c = falls c.loop-raises.invariant c.requires.start_value c.in-Failure.ensures

pub loop-raises-preserved : goal.loop-raises-preserved
loop-raises-preserved c = fails c.loop-raises.invariant c.requires.start_value c.in-Failure.ensures

pub returns-in-Halt : goal.returns-in-Halt
returns-in-Halt c = halts c.loop-raises.invariant c.requires.start_value c.in-Halt.ensures
