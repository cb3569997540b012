-- What holds of every accepted sheet, and of a call on it: what docs/PROMISES.md lists beside the demands.
use Prim.Native.Nat.{ℕ, zero, suc, ◌+◌, ◌*◌, ◌<◌, ◌≤◌}
use mathlib.Core.Path.{◌≡◌, refl, ◌∙◌}
use mathlib.Core.Bool.{true}
use mathlib.Core.Option.{none, some}
use mathlib.Core.List.{List}
use native.Mathlib.Omega.{arith}
use lib.ListN.{length, replicate}
use Rattle.model.specs.Problem.{whole, Action, Form, decision, Problem, Cell, states, node_at, action_at, cell_of, value_of, solved}
use Rattle.model.specs.Format.{Bytes}
use Rattle.model.specs.Read.{problem_of, cells_of}
use Rattle.model.specs.Limits.{max_states, ceiling, no_plan, many_raises}
use Rattle.model.specs.Cost.{Cost, amount, both, times}
use Rattle.model.specs.QValue.{q_full, q, dearest, Dearest}
use Rattle.model.specs.Questions.{refusal}
use Rattle.model.specs.Earlier.{strictly_accepted}
use Rattle.model.specs.Optimal.{bellman, bellman_cut, optimal, sum_below, gap, gaps}
use Rattle.model.specs.Policy.{Policy, Closed, Checked, policy_cost, written}
use Rattle.model.specs.Report.{answer_to, bytes_after}
use Rattle.model.specs.Demands.{Accepted}
use Rattle.theory.specs.Consistent.{WellFormed, Consistent}
use Rattle.theory.proofs.Basics.{sum-gap, sum-bounded}
use Rattle.theory.proofs.LimitLaws.{values-few}
use Rattle.theory.proofs.DearestLaws.{action-dearest, dearest-only}
use Rattle.theory.proofs.CostLaws.{amount-small}
use Rattle.theory.proofs.Bellman.{optimal-solves, optimal-only, optimal-amount}
use Rattle.theory.proofs.PolicyLaws.{closed-costs, costs-closed, greedy, greedy-closed, none-closed, closed_none, closed-least}
use Rattle.theory.proofs.PolicyLaws.{never-none}
use Rattle.theory.proofs.Admissible.{monotone, below-optimal, solved-cost}
use Rattle.theory.proofs.Repeats.{only-counts, only-priced, policy-pays, solved-pays}
use Rattle.theory.proofs.Loosened.{same-accepted, strict-six}
use Rattle.theory.proofs.Accepted.{asked-problem, asked-cells}
use Rattle.theory.proofs.Sheets.{Stands, accepted-stands, stands-problem, stands-accepted, unrefused}
use Rattle.theory.proofs.Called.{answer-refused, Kept, Called, call-does}

-- Of a problem and cells that a sheet stands for.
module _ {s : List ℕ} {p : Problem} {cells : List Cell} (h : Stands s p cells) where
  pub problem-of : WellFormed p
  problem-of = asked-problem p cells h.asked

  pub cells-of : Consistent p cells
  cells-of = asked-cells p cells h.asked

  -- gaps and values make up V* as written
  gaps-total : gaps p cells + sum_below (states p) (value_of cells) ≡ sum_below (states p) (λ t. amount (optimal p t))
  gaps-total = sum-gap (value_of cells) (λ t. amount (optimal p t)) (below-optimal p problem-of cells cells-of) (states p)

-- the cells that a sheet stands for are those that its bytes read as
pub raises-gaps : (s s' : List ℕ) (p : Problem) (cells cells' : List Cell) (n : ℕ) → Stands s p cells →
    Stands s' p cells' →
    Kept p cells cells' n → n + gaps p cells' ≤ gaps p cells
raises-gaps s s' p cells cells' n h h' k = omega (arith, gaps-total h, gaps-total h', k.paid)

module _ (s : List ℕ) (acc : Accepted s) where
  stands : Stands s (problem_of s) (cells_of s)
  stands = accepted-stands s acc.bytes acc.yes

  wf : WellFormed (problem_of s)
  wf = problem-of stands

  -- 1: V* solves the Bellman equation and is its only solution; V* as written solves the equation as written
  pub bellman-holds : (t : ℕ) → optimal (problem_of s) t ≡ bellman (problem_of s) t (optimal (problem_of s))
  bellman-holds = optimal-solves (problem_of s) wf

  pub bellman-only : (v : ℕ → Cost) → ((t : ℕ) → v t ≡ bellman (problem_of s) t v) → (t : ℕ) →
      v t ≡ optimal (problem_of s) t
  bellman-only = optimal-only (problem_of s) wf

  pub bellman-cut : (t : ℕ) →
      amount (optimal (problem_of s) t) ≡ bellman_cut (problem_of s) t (λ u. amount (optimal (problem_of s) u))
  bellman-cut = optimal-amount (problem_of s) wf

  -- 2, S2.6: V* of a state is none exactly where no policy from it is closed; where it is some number, some closed policy costs exactly
  -- that, and every closed policy costs some number, at least that
  pub none-for : (t : ℕ) → optimal (problem_of s) t ≡ none → (π : Policy) → Closed (problem_of s) π t → ⊥
  none-for = none-closed (problem_of s) wf

  pub none_where : (t : ℕ) → ((π : Policy) → Closed (problem_of s) π t → ⊥) → optimal (problem_of s) t ≡ none
  none_where = closed_none (problem_of s) wf

  pub some-policy : (t x : ℕ) → optimal (problem_of s) t ≡ some x →
      (π : Policy) × Closed (problem_of s) π t × (policy_cost (problem_of s) π t ≡ some x)
  some-policy t x e = let (closed, costs) = greedy-closed (problem_of s) wf t x e in (greedy (problem_of s), closed, costs)

  pub every-policy : (π : Policy) (t : ℕ) → Closed (problem_of s) π t →
      (x y : ℕ) × (optimal (problem_of s) t ≡ some x) × (policy_cost (problem_of s) π t ≡ some y) × (x ≤ y)
  every-policy π t = closed-least (problem_of s) wf t π

  -- S2.3: a policy costs some number exactly where it is closed
  pub closed-number : (π : Policy) (t : ℕ) → Closed (problem_of s) π t → (y : ℕ) × (policy_cost (problem_of s) π t ≡ some y)
  closed-number = closed-costs (problem_of s) wf

  pub number-closed : (π : Policy) (t y : ℕ) → policy_cost (problem_of s) π t ≡ some y → Closed (problem_of s) π t
  number-closed = costs-closed (problem_of s) wf

  -- S8.15: where every decision has an action, V* is some number everywhere
  pub checked-number : Checked (problem_of s) → (t : ℕ) → (x : ℕ) × (optimal (problem_of s) t ≡ some x)
  checked-number = never-none (problem_of s) wf

  -- 3: each value is at most V* as written, admissible and monotone; a solved state's value is what the policy written at it costs, as
  -- written
  pub values-admissible : (t : ℕ) → value_of (cells_of s) t ≤ amount (optimal (problem_of s) t)
  values-admissible = below-optimal (problem_of s) wf (cells_of s) (cells-of stands)

  pub values-monotone : (t : ℕ) → value_of (cells_of s) t ≤ bellman_cut (problem_of s) t (value_of (cells_of s))
  values-monotone = monotone (problem_of s) wf (cells_of s) (cells-of stands)

  pub solved-written : (t : ℕ) → solved (cell_of (cells_of s) t) ≡ true →
      value_of (cells_of s) t ≡ amount (policy_cost (problem_of s) (written (cells_of s)) t)
  solved-written = solved-cost (problem_of s) wf (cells_of s) (cells-of stands)

  -- 4: the dearest successor of an action, by any values, is the lowest-numbered of those whose value is largest, and no other number is
  pub dearest-of : (t i : ℕ) {form : Form} (acts : List Action) → node_at (problem_of s) t ≡ decision form acts → i < length acts →
      (v : ℕ → ℕ) →
      Dearest v (action_at acts i).successors (dearest v (action_at acts i).successors)
      × ((u : ℕ) → Dearest v (action_at acts i).successors u → u ≡ dearest v (action_at acts i).successors)
  dearest-of t i acts e l v =
      let is = action-dearest (problem_of s) wf t i acts e l v in (is, dearest-only v is)

  -- 5: S2.10, where the sheet is whole and action i of decision t lists the state u n times, once or more, and no other: it costs its
  -- cost plus n times what u costs, by V* and by any costs, and none where that is none; that is its price, up to the ceiling; a policy
  -- that takes it costs so much; and where the decision is solved by it, that is the decision's value, by V* and as written
  module _ (is : (problem_of s).kind ≡ whole) (t i n u : ℕ) {form : Form} (acts : List Action)
      (node : node_at (problem_of s) t ≡ decision form acts) (exists : i < length acts) (often : 0 < n)
      (only : (action_at acts i).successors ≡ replicate n u) where
    pub check-pays : (v : ℕ → Cost) →
        q_full (problem_of s).kind v (action_at acts i) ≡ both ◌+◌ (some (action_at acts i).cost) (times n (v u))
    check-pays = only-counts (problem_of s).kind is (action_at acts i) n u often only

    pub price-pays : (v : ℕ → ℕ) → (action_at acts i).cost + n * v u ≤ ceiling →
        q (problem_of s).kind v (action_at acts i) ≡ (action_at acts i).cost + n * v u
    price-pays = only-priced (problem_of s).kind is (action_at acts i) n u often only

    pub plan-pays : (π : Policy) → π t ≡ some i →
        policy_cost (problem_of s) π t ≡ both ◌+◌ (some (action_at acts i).cost) (times n (policy_cost (problem_of s) π u))
    plan-pays π takes = policy-pays (problem_of s) wf is t i n u acts node often only π takes exists

    pub settled-pays : solved (cell_of (cells_of s) t) ≡ true → (cell_of (cells_of s) t).chosen ≡ i →
        value_of (cells_of s) t ≡ amount (both ◌+◌ (some (action_at acts i).cost) (times n (optimal (problem_of s) u)))
    settled-pays marked e = solved-pays (problem_of s) wf is t i n u acts node often only (cells_of s) (cells-of stands) marked e exists

  -- 6: gaps, and with them the raises of all calls, are no more than there are states, times 1,000,000,001, and so few
  pub gaps-within : gaps (problem_of s) (cells_of s) ≤ states (problem_of s) * no_plan
  gaps-within =
      sum-bounded (gap (problem_of s) (cells_of s)) no_plan (λ t. omega (arith, amount-small (optimal (problem_of s) t)))
      (states (problem_of s))

  pub gaps-few : gaps (problem_of s) (cells_of s) < many_raises
  gaps-few = omega (arith, gaps-within, values-few (states (problem_of s)) stands.asked.shaped.most)

  -- One call, with any number of table entries and any budget.
  module _ (entries budget : ℕ) where
    called : Called s (problem_of s) (cells_of s) entries budget
    called = call-does s (problem_of s) (cells_of s) stands entries budget

    -- 7: raises are at most the gaps
    pub raises-few : (answer_to s entries budget).raises ≤ gaps (problem_of s) (cells_of s)
    raises-few = omega (arith, raises-gaps s _ (problem_of s) (cells_of s) called.next _ stands called.stands called.kept)

    -- 8: the bytes after it pass every question about the sheet again, with the same problem
    pub still-a-sheet : Accepted (bytes_after s entries budget) × (problem_of (bytes_after s entries budget) ≡ problem_of s)
    still-a-sheet = (
      record { bytes = called.stands.bytes; yes = stands-accepted _ (problem_of s) called.next called.stands },
      stands-problem _ (problem_of s) called.next called.stands,
    )

    -- 9: S8.13, and where s was accepted when every sheet's findings had to ascend strictly, they would have been, too: so what one call
    -- keeps every list of calls keeps
    pub still-strict : strictly_accepted max_states s ≡ true → strictly_accepted max_states (bytes_after s entries budget) ≡ true
    still-strict strict =
        let (left, same) = still-a-sheet in
        same-accepted max_states (bytes_after s entries budget) (rw same (strict-six max_states s strict)) ∙ left.yes

-- S7.3, of any bytes: a call makes few raises
pub raises-small : (s : List ℕ) → Bytes s → (entries budget : ℕ) → (answer_to s entries budget).raises < many_raises
raises-small s bytes entries budget = go (refusal s entries budget) refl
  where
    go : (n : ℕ) → refusal s entries budget ≡ n → (answer_to s entries budget).raises < many_raises
    go zero e =
        let acc : Accepted s = record { bytes = bytes; yes = unrefused s entries budget e } in
        omega (arith, raises-few s acc entries budget, gaps-few s acc)
    go (suc n) e = rw (answer-refused s entries budget n e) (omega arith)
