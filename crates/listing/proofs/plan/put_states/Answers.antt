use mathlib.Core.Path.{refl, sym, ◌∙◌}
use native.Mathlib.Omega.{arith}
use Rattle.model.specs.Read.{problem_of, cells_of}
use Rattle.listing.specs.Put.{Chooses}
use Rattle.listing.proofs.Planned.{reached-chooses}
use Rattle.listing.proofs.Reaching.{lined-none, lined-state, lined-skip}
use Rattle.listing.proofs.plan.put_states.Goals as goal
use Rattle.listing.proofs.plan.put_states.Goals.{Then-flags-s, then-flags-s, else-flags-s}

pub loop-s-init : goal.loop-s-init
loop-s-init c = lined-none _ _ _ _ _ _ refl c.requires.by_index (omega (arith, c.requires.room))

-- the plan reaches the state whose flag is up, so its chosen action exists
chooses : (c : Then-flags-s) → Chooses (problem_of c.args.sheet.now) (cells_of c.args.sheet.now) c.loop-s.s
chooses c =
    let flag = sym (c.loop-s.invariant.up _ c.loop-s-test.true) ∙ c.if-flags-s.true in
    reached-chooses _ _ c.requires.listable.complete _ _ flag

pub put_state-requires-clause-chooses : goal.put_state-requires-clause-chooses
put_state-requires-clause-chooses c = chooses (goal.at.put_state-requires-clause-chooses c).Then-flags-s

pub reach_on-requires-clause-chooses : goal.reach_on-requires-clause-chooses
reach_on-requires-clause-chooses c = chooses (goal.at.reach_on-requires-clause-chooses c).Then-flags-s

pub loop-s-preserved : goal.loop-s-preserved
loop-s-preserved c =
    let h = c.loop-s.invariant in
    let below = c.loop-s-test.true in
    elim c.if-flags-s.branch [
      | then-flags-s w ↦ rw (w.flags-is, w.page-is) (lined-state _ _ _ _ _ h below c.requires.n_value.1 w.if-flags-s.true
          w.put_state.ensures.appended w.put_state.ensures.upper_bound w.reach_on.ensures)
      | else-flags-s w ↦ rw (w.flags-is, w.page-is) (lined-skip _ _ _ _ _ h below c.requires.n_value.1 w.if-flags-s.false)
    ]
