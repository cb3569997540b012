-- What the theory supposes of a problem and its cells: what questions 3 to 8 come to, state by state.
use Rattle.std.specs.Prelude.{ℕ, ◌<◌, ◌≤◌, ◌≡◌, true, false, List, [], ◌∷◌, length}
use Rattle.std.proofs.Math.Option.{Option, none, some}
use Rattle.model.specs.Problem.{Action, Form, Node, terminal, decision, Problem, Cell, states, node_at, action_at, cell_of}
use Rattle.model.specs.Problem.{value_of, solved, ◌∈◌}
use Rattle.model.specs.Limits.{ceiling, no_plan}
use Rattle.model.specs.QValue.{q}

-- states ascend, and equal ones may stand side by side
abbrev pub Ascends : List ℕ → Type 0
Ascends [] = Unit {0}
Ascends (t ∷ ts) = ((u : ℕ) → u ∈ ts → t ≤ u) × Ascends ts

-- the value that a state ends at by itself: a terminal's cost, none for a decision with no action; any other decision has actions to try
abbrev pub end_of : Node → Option ℕ
end_of (terminal cost) = some cost
end_of (decision form []) = some no_plan
end_of (decision form (a ∷ more)) = none

-- of the problem alone
pub record WellFormed (p : Problem) : Type 0 where
  -- 3: the start is a state
  pub starts : p.start < states p
  -- 5: no terminal costs more than the ceiling
  pub capped : (s cost : ℕ) → node_at p s ≡ terminal cost → cost ≤ ceiling
  -- 6: successors are states above their decision
  pub forward : (s i t : ℕ) {form : Form} (acts : List Action) → node_at p s ≡ decision form acts → t ∈ (action_at acts i).successors →
      (s < t) × (t < states p)
  -- 4 and 6: an action has a successor, and its successors ascend
  pub ordered : (s i : ℕ) {form : Form} (acts : List Action) → node_at p s ≡ decision form acts → i < length acts →
      (0 < length (action_at acts i).successors) × Ascends (action_at acts i).successors

-- action i of the decision s exists, has the decision's value for a price, and leads to solved states only
pub record Settles (p : Problem) (cells : List Cell) (s i : ℕ) (acts : List Action) : Type 0 where
  pub exists : i < length acts
  pub priced : (cell_of cells s).value ≡ q p.kind (value_of cells) (action_at acts i)
  pub below : (t : ℕ) → t ∈ (action_at acts i).successors → solved (cell_of cells t) ≡ true

-- of one state
pub record Sound (p : Problem) (cells : List Cell) (s : ℕ) : Type 0 where
  -- 5
  pub small : (cell_of cells s).value ≤ no_plan
  pub mark : (cell_of cells s).mark ≤ 1
  pub unchosen : solved (cell_of cells s) ≡ false → (cell_of cells s).chosen ≡ 0
  -- a terminal's field has no chosen action, and a decision with no action has 0 there
  pub endless : (x : ℕ) → end_of (node_at p s) ≡ some x → (cell_of cells s).chosen ≡ 0
  -- 7
  pub under_end : (x : ℕ) → end_of (node_at p s) ≡ some x → (cell_of cells s).value ≤ x
  pub under_q : {form : Form} (acts : List Action) (i : ℕ) → node_at p s ≡ decision form acts → i < length acts →
      (cell_of cells s).value ≤ q p.kind (value_of cells) (action_at acts i)
  -- 8
  pub at_end : (x : ℕ) → end_of (node_at p s) ≡ some x → solved (cell_of cells s) ≡ true → (cell_of cells s).value ≡ x
  pub settles : {form : Form} (acts : List Action) → node_at p s ≡ decision form acts → 0 < length acts → solved (cell_of cells s) ≡ true →
      Settles p cells s (cell_of cells s).chosen acts

pub record Consistent (p : Problem) (cells : List Cell) : Type 0 where
  pub size : length cells ≡ states p
  pub sound : (s : ℕ) → Sound p cells s
