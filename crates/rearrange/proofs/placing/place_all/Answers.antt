use native.Mathlib.Omega.{arith}
use Rattle.rearrange.proofs.Run.{run-start, run-full, run-stuck, run-enough, run-lows, run-next}
use Rattle.rearrange.proofs.placing.place_all.Goals as goal

pub loop-k-init : goal.loop-k-init
loop-k-init c = run-start c.states-n.ensures.number c.requires.by_index

pub returns-in_default : goal.returns-in_default
returns-in_default c =
    let (is, all, counts) = run-stuck c.loop-k.invariant c.states-n.ensures.number c.requires.n_value c.loop-k-test.true
    c.in_default.ensures in
    record { value = is; after = all; by_index_2 = counts }

pub release-low-requires : goal.release-low-requires
release-low-requires c =
    let run = c.loop-k.invariant in
    let count = c.states-n.ensures.number in record {
      below = omega (arith, c.in-Some.ensures.0);
      by_index = run-enough run count c.requires.n_value c.loop-k-test.true c.in-Some.ensures c.requires.inside;
      by_index_2 = run-lows run count c.requires.n_value c.loop-k-test.true c.in-Some.ensures c.requires.inside;
    }

pub loop-k-preserved : goal.loop-k-preserved
loop-k-preserved c =
    run-next c.loop-k.invariant c.states-n.ensures.number c.requires.n_value c.loop-k-test.true c.in-Some.ensures c.requires.inside
    c.release-low.ensures.waits_after c.release-low.ensures.upper_bound.1

pub returns : goal.returns
returns c =
    let (is, all, counts) = run-full c.loop-k.invariant c.states-n.ensures.number c.requires.n_value (omega arith) in
    record { value = is; after = all; by_index_2 = counts }
