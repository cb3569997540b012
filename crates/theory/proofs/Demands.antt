-- The three demands, of every call and of every list of calls; and that work ends.
use Prim.Native.Nat.{ℕ, zero, suc, ◌<◌, ◌≤◌}
use mathlib.Core.Path.{◌≡◌, refl, sym, ap, subst, ◌∙◌}
use mathlib.Core.Bool.{Bool, true, false}
use mathlib.Core.Logic.{◌⊎◌, inl, inr}
use mathlib.Core.Option.{some}
use mathlib.Core.List.{List, [], ◌∷◌, ◌++◌}
use native.Mathlib.Omega.{arith}
use borrow.Author.Tests.{le-leb}
use lib.Dec.{eqb}
use Rattle.model.specs.Tests.{fork}
use Rattle.model.specs.Problem.{Problem, Cell, cell_of, value_of, solved}
use Rattle.model.specs.Format.{Bytes}
use Rattle.model.specs.Read.{problem_of, cells_of}
use Rattle.model.specs.Limits.{max_states, ceiling, no_plan, many_raises}
use Rattle.model.specs.Cost.{amount, ◌⊑◌}
use Rattle.model.specs.Questions.{question1, question9, refusal}
use Rattle.model.specs.Optimal.{optimal, gaps}
use Rattle.model.specs.Policy.{Checked, policy_cost}
use Rattle.model.specs.Report.{outcome_of, cells_after, refused as refused_answer, finished, bytes_after}
use Rattle.model.specs.Calls.{Call, call_of, call_on, Calls, none, one, left, raises_in, granted, budgets_in}
use Rattle.model.specs.Demands.{Accepted, start_cell, start_cost, Best, PlansAbove, PlanBelow, Demand1, refused, worked, Demand2}
use Rattle.model.specs.Demands.{Demand3}
use Rattle.theory.proofs.Basics.{clash}
use Rattle.theory.proofs.Histories.{history-counts}
use Rattle.theory.proofs.Leads.{solved-of}
use Rattle.theory.specs.Consistent.{WellFormed}
use Rattle.theory.proofs.CostLaws.{at-most-then, not_some, amount-below, amount-within, amount-above, amount-some, amount-over}
use Rattle.theory.proofs.CostLaws.{amount-none}
use Rattle.theory.proofs.PolicyLaws.{optimal-least, greedy, greedy-closed, none-closed, closed_none, closed-least, never-none}
use Rattle.theory.proofs.Admissible.{below-optimal, solved-optimal, written-closed, written-costs, written-optimal, reached-solved}
use Rattle.theory.proofs.Work.{Worked}
use Rattle.theory.proofs.Refusals.{refused-first, refused-below, unrefused-yes}
use Rattle.theory.proofs.Sheets.{Stands, accepted-stands, stands-problem, stands-cells, stands-accepted, stands-left, unrefused}
use Rattle.theory.proofs.Called.{work_on, answer-worked, answer-refused, budget-given, call-worked, call-refused}
use Rattle.theory.proofs.Called.{work-done, worked-stands, call-does, CalledAll, calls-do}
use Rattle.theory.proofs.Promises.{problem-of, cells-of, raises-gaps, gaps-few}
use Rattle.theory.proofs.Outcomes.{OutcomeSays, outcome-says, outcome-where}

-- Demand 1, of any bytes, a table of any number of entries and any budget
pub demand1 : (s : List ℕ) (entries budget : ℕ) → Demand1 s entries budget (call_on s entries budget)
demand1 s entries budget = go (refusal s entries budget) refl
  where
    go : (n : ℕ) → refusal s entries budget ≡ n → Demand1 s entries budget (call_on s entries budget)
    go zero e = rw (call-worked s entries budget e) (worked (unrefused-yes s entries budget e) (outcome-says _).some)
    go (suc k) e = rw (call-refused s entries budget k e) (refused (refused-first s entries budget k e) (refl, refl, refl) refl)

-- the plan written in a sheet whose start is settled below the ceiling
best-plan : (s : List ℕ) (p : Problem) (cells : List Cell) → Stands s p cells →
    solved (cell_of cells p.start) ≡ true → value_of cells p.start < ceiling → Best p cells
best-plan s p cells h e l =
    let wf = problem-of h in let c = cells-of h in
    record {
      complete = written-closed p wf cells c p.start e (omega arith);
      costs = written-costs p wf cells c p.start e l;
      least = λ π closed. rw (written-optimal p wf cells c p.start e l) (optimal-least p wf π p.start);
      settled = λ t reach. reached-solved p wf cells c reach e;
    }

-- What there is of closed policies from the start, by V* as written (S8.14): none at all, some that all cost the ceiling or more, one
-- that costs less; and the other way.
module _ (p : Problem) (wf : WellFormed p) where
  above-plans : amount (optimal p p.start) ≡ ceiling → PlansAbove p
  above-plans e =
      let (x, is, le) = amount-within (optimal p p.start) (omega arith) in
      record {
        plan = greedy p;
        complete = (greedy-closed p wf p.start x is).0;
        every = λ π closed.
            let up : some ceiling ⊑ optimal p p.start = rw is (omega arith) in
            at-most-then (some ceiling) (optimal p p.start) (policy_cost p π p.start) up (optimal-least p wf π p.start);
      }

  plans-above : PlansAbove p → amount (optimal p p.start) ≡ ceiling
  plans-above h =
      let (x, y, is, costs, le) = closed-least p wf p.start h.plan h.complete in
      let (closed, pays) = greedy-closed p wf p.start x is in
      let up : ceiling ≤ x = rw pays at (h.every (greedy p) closed) in
      ap amount is ∙ amount-over x up

  plan-below : PlanBelow p → amount (optimal p p.start) < ceiling
  plan-below h =
      let (x, y, is, costs, le) = closed-least p wf p.start h.plan h.complete in
      let same : y ≡ h.cost = cc h.costs in
      let low = h.below in
      let small = amount-some x (omega arith) in
      rw is (omega arith)

-- the cells that the work of a call leaves of the sheet s, and the start's among them
abbrev cells_left : List ℕ → ℕ → List Cell
cells_left s budget = cells_after (work_on s budget)

abbrev start_left : List ℕ → ℕ → Cell
start_left s budget = cell_of (cells_left s budget) (problem_of s).start

-- demand 2 of a call that is refused
refused-right : (s : List ℕ) (entries budget k : ℕ) → refusal s entries budget ≡ suc k →
    Demand2 s entries budget (call_of (refused_answer budget (suc k)) s)
refused-right s entries budget k e =
    let few = refused-below s entries budget k e in
    record {
      as_defined = sym (call-refused s entries budget k e);
      by_ldfs = λ z. absurd (omega arith);
      refused_for = λ _. let f = refused-first s entries budget k e in (f.behind, f.no);
      refused_where = λ i no. omega arith;
      settled = λ z. absurd (omega arith);
      over = λ z. absurd (omega arith);
      stopped = λ z. absurd (omega arith);
      none = λ z. absurd (omega arith);
      settled_where = λ z. absurd (omega arith);
      over_where = λ z. absurd (omega arith);
      none_where = λ z. absurd (omega arith);
      price_is_value = λ z. absurd (omega arith);
      given = refl;
      raises_within = omega arith;
      passes_few = omega arith;
    }

-- and of one that has worked
module _ (s : List ℕ) (entries budget : ℕ) (e : refusal s entries budget ≡ 0) (h : Stands s (problem_of s) (cells_of s)) where
  after : Stands (bytes_after s entries budget) (problem_of s) (cells_left s budget)
  after = worked-stands s (problem_of s) (cells_of s) h entries budget e

  end : cells_of (bytes_after s entries budget) ≡ cells_left s budget
  end = stands-cells _ (problem_of s) _ after

  says : OutcomeSays (start_left s budget) (outcome_of (start_left s budget))
  says = outcome-says (start_left s budget)

  done : Worked (problem_of s) (cells_of s) budget (work_on s budget)
  done = work-done s (problem_of s) (cells_of s) h budget

  start-optimal : solved (start_left s budget) ≡ true → (start_left s budget).value ≡ amount (start_cost s)
  start-optimal = solved-optimal (problem_of s) (problem-of h) (cells_left s budget) (cells-of after) (problem_of s).start

  start-below : (start_left s budget).value ≤ amount (start_cost s)
  start-below = below-optimal (problem_of s) (problem-of h) (cells_left s budget) (cells-of after) (problem_of s).start

  -- a mark of the start in the bytes left is its mark in the cells that work leaves
  found : solved (start_cell s (bytes_after s entries budget)) ≡ true → solved (start_left s budget) ≡ true
  found marked = rw end at marked

  worked-right : Demand2 s entries budget (call_of (finished (problem_of s) budget (work_on s budget)) (bytes_after s entries budget))
  worked-right = record {
    as_defined = sym (call-worked s entries budget e);
    by_ldfs = λ _. record {
      cells = end;
      passes = refl;
      raises = refl;
      changes = done.changes;
      history = rw end done.history;
      counted = omega (arith, history-counts done.history);
    };
    refused_for = λ few. absurd (above few says.some);
    refused_where = λ i no. clash (unrefused-yes s entries budget e i) no;
    settled = λ n. let o = says.settled n in record {
      price =
          let v = start-optimal o.0 in rw v (amount-below (start_cost s) (omega (arith, o.1)));
      below = o.1;
      marked = rw end o.0;
      best = rw end (best-plan _ (problem_of s) (cells_left s budget) after o.0 o.1);
    };
    over = λ n.
        let (marked, at) = says.over n in
        let v = start-optimal marked in
        let (x, is, le) = amount-within (start_cost s) (omega arith) in
        record {
          price = at;
          plans = above-plans (problem_of s) (problem-of h) (omega arith);
          cost = x;
          least = is;
          above = omega arith;
          marked = rw end marked;
          complete = rw end (written-closed (problem_of s) (problem-of h) (cells_left s budget) (cells-of after) (problem_of s).start marked
              (omega arith));
        };
    stopped = λ n. let o = says.stopped n in record { spent = done.spent o; still_open = rw end o; bound = start-below };
    none = λ n.
        let (marked, above) = says.none n in
        let is = amount-above (start_cost s) (omega (arith, start-optimal marked)) in
        record {
          price = omega (arith, ((cells-of after).sound (problem_of s).start).small);
          no_complete_plan = none-closed (problem_of s) (problem-of h) (problem_of s).start is;
          least = is;
          marked = rw end marked;
        };
    settled_where = λ _ marked plan.
        let below = plan-below (problem_of s) (problem-of h) plan in
        (outcome-where _ (found marked)).0 (omega (arith, start-optimal (found marked)));
    over_where = λ _ marked plans.
        let at = plans-above (problem_of s) (problem-of h) plans in
        (outcome-where _ (found marked)).1 (start-optimal (found marked) ∙ at);
    none_where = λ _ marked no_complete_plan.
        let is = ap amount (closed_none (problem_of s) (problem-of h) (problem_of s).start no_complete_plan) in
        (outcome-where _ (found marked)).2 (omega (arith, start-optimal (found marked), is, amount-none));
    price_is_value = λ _. rw end;
    given = refl;
    raises_within = done.within;
    passes_few = done.few;
  }
    where
      above : {n : ℕ} → n < 100 → (n ≡ 100) ⊎ ((n ≡ 101) ⊎ ((n ≡ 102) ⊎ (n ≡ 103))) → ⊥
      above few (inl z) = omega arith
      above few (inr (inl z)) = omega arith
      above few (inr (inr (inl z))) = omega arith
      above few (inr (inr (inr z))) = omega arith

-- Demand 2, of any bytes, a table of any number of entries and any budget
pub demand2 : (s : List ℕ) → Bytes s → (entries budget : ℕ) → Demand2 s entries budget (call_on s entries budget)
demand2 s bytes entries budget = go (refusal s entries budget) refl
  where
    go : (n : ℕ) → refusal s entries budget ≡ n → Demand2 s entries budget (call_on s entries budget)
    go zero e =
        rw (call-worked s entries budget e) (worked-right s entries budget e (accepted-stands s bytes (unrefused s entries budget e)))
    go (suc k) e = rw (call-refused s entries budget k e) (refused-right s entries budget k e)

-- a number from 100 on is no refusal
worked-number : (s : List ℕ) (entries budget : ℕ) → 100 ≤ (call_on s entries budget).number → refusal s entries budget ≡ 0
worked-number s entries budget n = go (refusal s entries budget) refl
  where
    go : (k : ℕ) → refusal s entries budget ≡ k → k ≡ 0
    go zero e = refl
    go (suc k) e =
        let same = ap (λ (c : Call). c.number) (call-refused s entries budget k e) in
        absurd (omega (arith, same, refused-below s entries budget k e))

-- S8.15: where every decision has an action, no call ends none
pub never-ends-none : (s : List ℕ) → Bytes s → Checked (problem_of s) → (entries budget : ℕ) →
    (call_on s entries budget).number ≡ 103 → ⊥
never-ends-none s bytes checked entries budget e =
    let wf = problem-of (accepted-stands s bytes (unrefused s entries budget (worked-number s entries budget (omega arith)))) in
    let (x, is) = never-none (problem_of s) wf checked (problem_of s).start in
    not_some ((demand2 s bytes entries budget).none e).least is

-- a price is at most 1,000,000,001
pub price-small : (s : List ℕ) → Bytes s → (entries budget : ℕ) → (call_on s entries budget).price ≤ no_plan
price-small s bytes entries budget = go (refusal s entries budget) refl
  where
    go : (n : ℕ) → refusal s entries budget ≡ n → (call_on s entries budget).price ≤ no_plan
    go zero e =
        rw (answer-worked s entries budget e)
        ((cells-of (after s entries budget e (accepted-stands s bytes (unrefused s entries budget e)))).sound (problem_of s).start).small
    go (suc k) e = rw (answer-refused s entries budget k e) (omega arith)

-- the sheet of such a call is accepted
pub worked-accepted : (s : List ℕ) → Bytes s → (entries budget : ℕ) → 100 ≤ (call_on s entries budget).number → Accepted s
worked-accepted s bytes entries budget n = record { bytes = bytes; yes = unrefused s entries budget (worked-number s entries budget n) }

-- a call that was not refused and leaves the start open has spent its budget
open-spent : (s : List ℕ) (p : Problem) (cells : List Cell) → Stands s p cells → (entries budget : ℕ) →
    let c = call_on s entries budget in
    100 ≤ c.number → solved (cell_of (cells_of c.bytes) p.start) ≡ false → c.raises ≡ c.budget
open-spent s p cells h entries budget n o =
    let e = worked-number s entries budget n in let called = call-does s p cells h entries budget in
    called.spent e (rw (stands-cells _ p _ called.stands) at o) ∙ sym (budget-given s entries budget)

-- each of some calls
each_spent : {s : List ℕ} {calls : List Call} → Calls s calls → (p : Problem) (cells : List Cell) → Stands s p cells →
    (before rest : List Call) (c : Call) → calls ≡ before ++ c ∷ rest →
    100 ≤ c.number → solved (cell_of (cells_of c.bytes) p.start) ≡ false → c.raises ≡ c.budget
each_spent none p cells h [] rest c e n o = let z : ◌≡◌ {A = ℕ} 0 1 = cc in absurd (omega arith)
each_spent none p cells h (b ∷ before) rest c e n o = let z : ◌≡◌ {A = ℕ} 0 1 = cc in absurd (omega arith)
each_spent (one {s} {more} entries budget made) p cells h [] rest c e n o =
    let same : c ≡ call_on s entries budget = cc in rw same (open-spent s p cells h entries budget (rw same at n) (rw same at o))
each_spent (one {s} {more} entries budget made) p cells h (b ∷ before) rest c e n o =
    let called = call-does s p cells h entries budget in
    each_spent made p called.next called.stands before rest c (cc) n o

-- Demand 3, of every list of calls on an accepted sheet
pub demand3 : {s : List ℕ} {calls : List Call} → Accepted s → Calls s calls → Demand3 s calls
demand3 {s} {calls} acc made = record {
  same_problem = stands-problem (left s calls) p d.last d.stands;
  still_accepted = record { bytes = d.stands.bytes; yes = stands-accepted (left s calls) p d.last d.stands };
  not_below_first = λ t. rw end (d.kept.rises t);
  not_above_optimal = λ t. rw end (below-optimal p (problem-of h) d.last (cells-of d.stands) t);
  raises_within_gaps = rw end (raises-gaps s (left s calls) p (cells_of s) d.last (raises_in calls) h d.stands d.kept);
  budget_spent = each_spent made p (cells_of s) h;
  best = rw end (best-plan (left s calls) p d.last d.stands);
}
  where
    p : Problem
    p = problem_of s

    h : Stands s (problem_of s) (cells_of s)
    h = accepted-stands s acc.bytes acc.yes

    d : CalledAll s (problem_of s) (cells_of s) calls
    d = calls-do made (problem_of s) (cells_of s) h

    end : cells_of (left s calls) ≡ d.last
    end = stands-cells (left s calls) (problem_of s) d.last d.stands

-- a state that is open after some calls was open before them
was-open : {s : List ℕ} {calls : List Call} → Calls s calls → (p : Problem) (cells : List Cell) → Stands s p cells → (t : ℕ) →
    solved (cell_of (cells_of (left s calls)) t) ≡ false → solved (cell_of cells t) ≡ false
was-open {s} {calls} made p cells h t o = go (solved (cell_of cells t)) refl
  where
    d : CalledAll s p cells calls
    d = calls-do made p cells h

    go : (b : Bool) → solved (cell_of cells t) ≡ b → b ≡ false
    go true e = clash (solved-of (d.kept.keeps t e) ∙ e) (rw (stands-cells (left s calls) p d.last d.stands) at o)
    go false e = refl

-- S8.8: whatever their budgets, all calls on an accepted sheet together make few raises
pub all-raises-few : {s : List ℕ} {calls : List Call} → Accepted s → Calls s calls → raises_in calls < many_raises
all-raises-few {s} acc made = omega (arith, (demand3 acc made).raises_within_gaps, gaps-few s acc)

-- a call on an accepted sheet that leaves the start open has spent what it was granted
abbrev Spent : Call → Type 0
Spent c = granted c ≤ c.raises

grant-spent : (s : List ℕ) (p : Problem) (cells : List Cell) (h : Stands s p cells) (entries budget : ℕ) →
    solved (cell_of (call-does s p cells h entries budget).next p.start) ≡ false → Spent (call_on s entries budget)
unfolding question9
grant-spent s p cells h entries budget o = go (question1 max_states entries) refl budget refl
  where
    why : refusal s entries budget ≡ fork (question1 max_states entries) (λ _. fork (question9 budget) (λ _. 0) (λ _. 9)) (λ _. 1)
    why = stands-left s p cells h entries budget

    at_most : (b : Bool) (x y : ℕ) → y ≡ x → fork b (λ _. 0) (λ _. x) ≤ y
    at_most true x y e = omega arith
    at_most false x y e = omega arith

    go : (b : Bool) → question1 max_states entries ≡ b → (n : ℕ) → budget ≡ n → Spent (call_on s entries budget)
    go false e n en = subst Spent (sym (call-refused s entries budget 0 (why ∙ rw e))) (omega arith)
    go true e zero en = subst Spent (sym (call-refused s entries budget 8 (why ∙ rw (e, en)))) (omega arith)
    go true e (suc n) en =
        let yes : refusal s entries budget ≡ 0 = why ∙ rw (e, le-leb 1 budget (omega arith)) in
        at_most (eqb (call_on s entries budget).number 1) (call_on s entries budget).budget (call_on s entries budget).raises
        ((call-does s p cells h entries budget).spent yes o ∙ sym (budget-given s entries budget))

-- while the start is open, every budget has been spent
spent_all : {s : List ℕ} {calls : List Call} → Calls s calls → (p : Problem) (cells : List Cell) → Stands s p cells →
    solved (cell_of (cells_of (left s calls)) p.start) ≡ false → budgets_in calls ≤ raises_in calls
unfolding budgets_in raises_in left
spent_all none p cells h o = omega arith
spent_all (one {s} {more} entries budget made) p cells h o =
    let called = call-does s p cells h entries budget in
    let spent = grant-spent s p cells h entries budget (was-open made p called.next called.stands p.start o) in
    omega (arith, spent, spent_all made p called.next called.stands o)

-- budgets above the gaps at the outset leave the start settled, however the work is cut up
pub work-ends : {s : List ℕ} {calls : List Call} → Accepted s → Calls s calls → gaps (problem_of s) (cells_of s) < budgets_in calls →
    solved (start_cell s (left s calls)) ≡ true
work-ends {s} {calls} acc made lt = go (solved (start_cell s (left s calls))) refl
  where
    go : (b : Bool) → solved (start_cell s (left s calls)) ≡ b → b ≡ true
    go true e = refl
    go false e =
        let spent = spent_all made (problem_of s) (cells_of s) (accepted-stands s acc.bytes acc.yes) e in
        absurd (omega (arith, spent, (demand3 acc made).raises_within_gaps))
