use Prim.Native.Nat.{ℕ, ◌+◌, ◌*◌, ◌<◌, ◌≤◌}
use mathlib.Core.Bool.{false}
use mathlib.Core.List.{List}
use mathlib.Core.Option.{some}
use mathlib.Core.Path.{◌≡◌, ◌∙◌, ap, sym}
use native.Mathlib.Omega.{arith}
use borrow.Author.Tests.{eqb-true}
use lib.ListN.{length}
use Rattle.model.specs.Problem.{Action, action_at, cell_of, value_of, solved}
use Rattle.model.specs.Format.{be16, value_offset}
use Rattle.model.specs.Limits.{ceiling}
use Rattle.model.specs.Read.{problem_of, cells_of}
use Rattle.sheet.specs.Sheet.{Decision}
use Rattle.sheet.proofs.Laws.{problem-is, within, sheet-length, actions_at}
use Rattle.theory.proofs.Turns.{visit-solved}
use Rattle.search.specs.declared.visits.OpenDecision.{OpenDecision}
use Rattle.search.specs.Did.{Workable}
use Rattle.search.specs.Opens.{Opens, Fair}
use Rattle.search.proofs.Actions.{Turn, action-ended, turn-fits, turn-priced, turn-few, turn_end, turn-later}
use Rattle.search.proofs.Ends.{terminal-end, ends-said}
use Rattle.search.proofs.Updates.{did, value_room, decision-marked}
use Rattle.search.proofs.Trying.{back, workable, Begun, Trying, Standing, tries, ahead, still-priced}
use Rattle.search.proofs.Trying.{stops, passes-quietly, passes-priced, dear, succeeds as try-succeeds}
use Rattle.search.proofs.Deciding.{Opened, begins, still-opens, still-workable, stands, all-kept, fails, fair, ends-so}
use Rattle.search.proofs.Deciding.{abandons, skips, some-there, finishes}
use Rattle.search.proofs.visits.+try_action_visit_visit_decision.Invariants.{nth}
use Rattle.search.proofs.visits.+try_action_visit_visit_decision.Goals as goal
use Rattle.search.proofs.visits.+try_action_visit_visit_decision.Goals.{try_action-After-end-end, try_action-After-from-t}
use Rattle.search.proofs.visits.+try_action_visit_visit_decision.Goals.{visit_decision-After-value-value, visit_decision-In-loop-a}

-- `try_action`: the action that is tried
abbrev tried : List ℕ → OpenDecision → ℕ → Action
tried s d n = action_at (actions_at (problem_of s) d.state) n

begun : {s t : List ℕ} {d : OpenDecision} {n a r budget : ℕ} →
    record { opens : Opens s t d; workable : Workable s; raises_le_budget : r ≤ budget; fair : Fair s d n a } →
    Begun t (problem_of s) budget d.state n a d.value s r
begun q =
    let d = q.opens.decision in record {
      sheet = d.within.sheet;
      ready = record { consistent = q.workable.consistent; within = q.raises_le_budget };
      turn = record { formed = q.workable.formed; below = d.within.below; tag = d.tag; exists = q.fair.exists; place = q.fair.place };
      now = q.opens.is;
      fair = q.fair.cheap;
    }

begun-at : (t : ℕ) (c : try_action-After-end-end t) →
    Begun c.args.table.now (problem_of c.args.sheet.now) c.args.budget c.args.d.state c.args.n c.args.a c.args.d.value c.args.sheet.now
    c.args.raises
begun-at t c = begun c.requires

-- the successors end where the next action stands
end-at : (t : ℕ) (c : try_action-After-end-end t) →
    c.end-end.result ≡ c.args.a + 7 + 2 * length (tried c.args.sheet.now c.args.d c.args.n).successors
end-at t c = let b = begun-at t c in turn_end b.turn b.sheet _ (action-ended c.new.ensures c.end-end.ensures.0)

-- the loop stands at a successor
standing-at : (t : ℕ) (c : try_action-After-from-t t) →
    Standing c.args.table.now (problem_of c.args.sheet.now) c.args.budget c.args.d.state c.args.n c.args.a c.args.d.value
    c.args.sheet.now c.args.raises c.loop-o.sheet c.loop-o.spent (nth c.args.a c.loop-o.o) c.from-t.result
standing-at t c =
    let b = begun c.requires in
    let i = c.loop-o.invariant in
    let ends = turn_end b.turn b.sheet _ (action-ended c.new.ensures c.end-end.ensures.0) in
    let lt : nth c.args.a c.loop-o.o < length (tried c.args.sheet.now c.args.d c.args.n).successors =
    omega (arith, i.0, c.loop-o-test.true, ends) in
    let read = c.from-t.ensures ∙ c.get16.ensures ∙ ap (be16 c.loop-o.sheet) i.0 in
    record { begun = b; trying = i.2; exists = lt; is = (turn-later b.turn i.2.sheet _ lt read).0 }

-- the loop goes on behind it
onwards : {s' : List ℕ} {r' : ℕ} (t : ℕ) (c : try_action-After-from-t t) →
    let p = problem_of c.args.sheet.now in
    let next = c.loop-o.o + 2 in
    let at-next = Trying c.args.table.now p c.args.budget c.args.d.state (tried c.args.sheet.now c.args.d c.args.n) c.args.sheet.now
    c.args.raises s' r' in
    at-next (nth c.args.a c.loop-o.o + 1) →
    (next ≡ c.args.a + 7 + 2 * nth c.args.a next) × (next ≤ c.end-end.result) × at-next (nth c.args.a next)
onwards t c h =
    let i = c.loop-o.invariant in
    let b = begun c.requires in
    let ends = turn_end b.turn b.sheet _ (action-ended c.new.ensures c.end-end.ensures.0) in
    let lt = (standing-at t c).exists in
    let next : nth c.args.a (c.loop-o.o + 2) ≡ nth c.args.a c.loop-o.o + 1 = omega (arith, i.0) in
    (omega (arith, i.0), omega (arith, i.0, lt, ends), rw next h)

-- `visit_decision`: the decision that is visited is open
opened : {s t : List ℕ} {i cell value r budget : ℕ} {b : List ℕ} →
    record {
      decision : Decision s t i;
      state_value : solved (cell_of (cells_of s) i) ≡ false;
      workable : Workable s;
      raises_le_budget : r ≤ budget;
    } →
    b ≡ s → (cell ≡ value_offset (problem_of b) i) × (cell + 5 ≤ length b) → value ≡ value_of (cells_of b) i →
    Opened t (problem_of s) budget (record { state = i; cell = cell; value = value }) s r
opened q same place is = record {
  sheet = q.decision.within.sheet;
  formed = q.workable.formed;
  ready = record { consistent = q.workable.consistent; within = q.raises_le_budget };
  below = q.decision.within.below;
  tag = q.decision.tag;
  unsolved = q.state_value;
  place = rw same at place.0;
  now = rw same at is;
}

opened-at : (t : ℕ) (c : visit_decision-After-value-value t) →
    Opened c.args.table.now (problem_of c.args.sheet.now) c.args.budget
    (record { state = c.args.state; cell = c.value_place-cell.result; value = c.value-value.result })
    c.args.sheet.now c.args.raises
opened-at t c = opened c.requires c.new-here.ensures c.value_place-cell.ensures c.value-value.ensures

-- an action stands here
turn-at : (t : ℕ) (c : visit_decision-In-loop-a t) → Turn (problem_of c.args.sheet.now) c.args.state c.loop-a.i c.loop-a.at
turn-at t c =
    let w = opened c.requires c.new-here.ensures c.value_place-cell.ensures c.value-value.ensures in
    stands w c.loop-a.invariant (sym c.action_here.ensures ∙ c.loop-a-test.true)

pub try_action-new-requires : goal.try_action-new-requires
try_action-new-requires t c =
    let b = begun c.requires in turn-fits b.turn b.sheet

pub try_action-loop-o-init : goal.try_action-loop-o-init
try_action-loop-o-init t c =
    let b = begun-at t (goal.at.try_action-loop-o-init t c).After-end-end in
    let none : nth c.args.a (c.args.a + 7) ≡ 0 = omega arith in
    (omega arith, omega (arith, (action-ended c.new.ensures c.end-end.ensures.0)), rw none (tries b))

pub try_action-visit-requires : goal.try_action-visit-requires
try_action-visit-requires t c =
    let g = standing-at t (goal.at.try_action-visit-requires t c).After-from-t in
    let f = ahead g in
    let h = g.trying in (
      rw (problem-is h.sheet) (omega (arith, c.decreases, f)),
      (within h.sheet _ f.1, (workable h.sheet g.begun.turn.formed h.leads.ready.consistent, h.leads.ready.within)),
    )

pub try_action-returns-in_default : goal.try_action-returns-in_default
try_action-returns-in_default t c =
    let g = (goal.at.try_action-returns-in_default t c).After-from-t in
    stops (standing-at t g) _ c.visit.ensures c.in_default.not-Success

pub try_action-loop-o-preserved-then-spent-before : goal.try_action-loop-o-preserved-then-spent-before
try_action-loop-o-preserved-then-spent-before t c =
    let g = (goal.at.try_action-loop-o-preserved-then-spent-before t c).After-from-t in
    onwards t g (passes-quietly (standing-at t g) c.in-Success.ensures c.if-spent-before.true)

pub try_action-price_at-y-requires : goal.try_action-price_at-y-requires
try_action-price_at-y-requires t c =
    let g = (goal.at.try_action-price_at-y-requires t c).After-from-t in
    still-priced (standing-at t g) c.in-Success.ensures

pub try_action-returns-then-y-d : goal.try_action-returns-then-y-d
try_action-returns-then-y-d t c =
    let g = (goal.at.try_action-returns-then-y-d t c).After-from-t in
    dear (standing-at t g) c.in-Success.ensures c.price_at-y.ensures c.if-y-d.true

pub try_action-loop-o-preserved : goal.try_action-loop-o-preserved
try_action-loop-o-preserved t c =
    let g = (goal.at.try_action-loop-o-preserved t c).After-from-t in
    onwards t g (passes-priced (standing-at t g) c.in-Success.ensures c.price_at-y.ensures c.if-y-d.false)

pub try_action-mark_decision-requires : goal.try_action-mark_decision-requires
try_action-mark_decision-requires t c =
    let b = begun-at t (goal.at.try_action-mark_decision-requires t c).After-end-end in
    let h = c.loop-o.invariant.2.sheet in
    omega (arith, value_room c.requires.opens, sheet-length b.sheet h)

-- every successor has passed, and the mark is made
pub try_action-returns : goal.try_action-returns
try_action-returns t c =
    let g = (goal.at.try_action-returns t c).After-end-end in
    let b = begun-at t g in
    let i = c.loop-o.invariant in
    let marked = decision-marked _ _ i.2.sheet b.turn.below b.turn.tag c.requires.opens.place c.mark_decision.ensures in
    let all : nth c.args.a c.loop-o.o ≡ length (tried c.args.sheet.now c.args.d c.args.n).successors =
    omega (arith, i.0, i.1, c.loop-o-test.false, end-at t g) in
    try-succeeds b i.2 all marked

pub visit-returns-then-is_solved : goal.visit-returns-then-is_solved
visit-returns-then-is_solved t c =
    let q = c.requires in
    let marked = sym (rw c.new-here.ensures at c.is_solved.ensures) ∙ c.if-is_solved.true in
    did q.within.sheet (sym (visit-solved _ _ q.workable.formed _ _ q.within.below marked))

pub visit-returns-then-is_terminal : goal.visit-returns-then-is_terminal
visit-returns-then-is_terminal t c =
    let q = c.requires in
    let tag = eqb-true _ _ (sym (rw c.new-here.ensures at c.is_terminal.ensures) ∙ c.if-is_terminal.true) in
    let ends = terminal-end _ tag ∙ ap some (sym (rw c.new-here.ensures at c.terminal_cost-cost.ensures)) in
    let unsolved = sym (rw c.new-here.ensures at c.is_solved.ensures) ∙ c.if-is_solved.false in
    ends-said _ _ _ _ _ q.workable.formed q.within.below unsolved ends c.finish.ensures

pub visit_decision-loop-a-init : goal.visit_decision-loop-a-init
visit_decision-loop-a-init t c =
    let w = opened-at t (goal.at.visit_decision-loop-a-init t c).After-value-value in
    begins w (rw c.new-here.ensures at c.first_action-at.ensures.0) c.none-kept.ensures

pub visit_decision-new-requires : goal.visit_decision-new-requires
visit_decision-new-requires t c =
    let u = turn-at t (goal.at.visit_decision-new-requires t c).In-loop-a in
    turn-fits u c.loop-a.invariant.sheet

pub visit_decision-price_at-x-requires : goal.visit_decision-price_at-x-requires
visit_decision-price_at-x-requires t c =
    let u = turn-at t (goal.at.visit_decision-price_at-x-requires t c).In-loop-a in
    turn-priced u c.loop-a.invariant.sheet

pub visit_decision-overflow_add-i : goal.visit_decision-overflow_add-i
visit_decision-overflow_add-i t c =
    let u = turn-at t (goal.at.visit_decision-overflow_add-i t c).In-loop-a in
    omega (arith, turn-few u c.loop-a.invariant.sheet)

pub visit_decision-loop-a-smaller-then-x-value : goal.visit_decision-loop-a-smaller-then-x-value
visit_decision-loop-a-smaller-then-x-value t c =
    let u = turn-at t (goal.at.visit_decision-loop-a-smaller-then-x-value t c).In-loop-a in
    omega (arith, u.exists)

pub visit_decision-loop-a-preserved-then-x-value : goal.visit_decision-loop-a-preserved-then-x-value
visit_decision-loop-a-preserved-then-x-value t c =
    let g = goal.at.visit_decision-loop-a-preserved-then-x-value t c in
    let w = opened-at t g.After-value-value in
    let u = turn-at t g.In-loop-a in
    let next = action-ended c.new.ensures c.end-at.ensures.0 in
    skips w c.loop-a.invariant u c.price_at-x.ensures c.if-x-value.true next c.skipped-kept.ensures

pub visit_decision-try_action-requires : goal.visit_decision-try_action-requires
visit_decision-try_action-requires t c =
    let g = goal.at.visit_decision-try_action-requires t c in
    let w = opened-at t g.After-value-value in
    let u = turn-at t g.In-loop-a in
    let m = c.loop-a.invariant in
    let cheap = fair w m u c.price_at-x.ensures c.if-x-value.false in (
      rw (problem-is m.sheet) (omega (arith, c.decreases)),
      (still-opens w m (omega (arith, u.exists)), (still-workable w m, (m.leads.ready.within, cheap))),
    )

pub visit_decision-returns-in_default : goal.visit_decision-returns-in_default
visit_decision-returns-in_default t c =
    let g = goal.at.visit_decision-returns-in_default t c in
    let w = opened-at t g.After-value-value in
    let u = turn-at t g.In-loop-a in
    ends-so w c.loop-a.invariant u c.price_at-x.ensures c.if-x-value.false _ c.try_action.ensures c.in_default.not-Failure

pub visit_decision-price_at-requires : goal.visit_decision-price_at-requires
visit_decision-price_at-requires t c =
    let u = turn-at t (goal.at.visit_decision-price_at-requires t c).In-loop-a in
    turn-priced u (back c.loop-a.invariant.sheet c.in-Failure.ensures.sheet)

pub visit_decision-overflow_add-i-in-loop-a : goal.visit_decision-overflow_add-i-in-loop-a
visit_decision-overflow_add-i-in-loop-a t c =
    let u = turn-at t (goal.at.visit_decision-overflow_add-i-in-loop-a t c).In-loop-a in
    omega (arith, turn-few u c.loop-a.invariant.sheet)

pub visit_decision-loop-a-smaller : goal.visit_decision-loop-a-smaller
visit_decision-loop-a-smaller t c =
    let u = turn-at t (goal.at.visit_decision-loop-a-smaller t c).In-loop-a in
    omega (arith, u.exists)

pub visit_decision-loop-a-preserved : goal.visit_decision-loop-a-preserved
visit_decision-loop-a-preserved t c =
    let g = goal.at.visit_decision-loop-a-preserved t c in
    let w = opened-at t g.After-value-value in
    let u = turn-at t g.In-loop-a in
    abandons w c.loop-a.invariant u c.price_at-x.ensures c.if-x-value.false c.in-Failure.ensures c.price_at.ensures
    (action-ended c.new.ensures c.end-at.ensures.0) c.abandoned-kept.ensures

pub visit_decision-returns-then-i-eq0 : goal.visit_decision-returns-then-i-eq0
unfolding ceiling
visit_decision-returns-then-i-eq0 t c =
    let w = opened-at t (goal.at.visit_decision-returns-then-i-eq0 t c).After-value-value in
    let none = sym c.action_here.ensures ∙ c.loop-a-test.false in
    finishes w c.loop-a.invariant none c.if-i-eq0.true c.finish.ensures

pub visit_decision-fail-requires-clause-opens : goal.visit_decision-fail-requires-clause-opens
visit_decision-fail-requires-clause-opens t c =
    let w = opened-at t (goal.at.visit_decision-fail-requires-clause-opens t c).After-value-value in
    let none = sym c.action_here.ensures ∙ c.loop-a-test.false in
    let m = c.loop-a.invariant in
    still-opens w m (some-there w m none (omega (arith, c.if-i-eq0.false)))

pub visit_decision-fail-requires-clause-workable : goal.visit_decision-fail-requires-clause-workable
visit_decision-fail-requires-clause-workable t c =
    let w = opened-at t (goal.at.visit_decision-fail-requires-clause-workable t c).After-value-value in
    still-workable w c.loop-a.invariant

pub visit_decision-fail-requires-clause-keeps : goal.visit_decision-fail-requires-clause-keeps
visit_decision-fail-requires-clause-keeps t c =
    let w = opened-at t (goal.at.visit_decision-fail-requires-clause-keeps t c).After-value-value in
    all-kept w c.loop-a.invariant (sym c.action_here.ensures ∙ c.loop-a-test.false)

pub visit_decision-returns : goal.visit_decision-returns
visit_decision-returns t c =
    let w = opened-at t (goal.at.visit_decision-returns t c).After-value-value in
    let none = sym c.action_here.ensures ∙ c.loop-a-test.false in
    fails w c.loop-a.invariant none (omega (arith, c.if-i-eq0.false)) c.fail.ensures
