-- Which problems and cells have bytes that read back, and the fields of a cell changed one by one.
use Rattle.std.specs.Prelude.{ℕ, ◌≤◌, ◌<◌, ◌≡◌, List, [], ◌∷◌, length, set}
use Rattle.model.specs.Problem.{Action, Form, Node, terminal, decision, Problem, Cell, cell, states, node_at, action_at, cell_of, ◌∈◌}
use Rattle.model.specs.Limits.{max_states, max_actions, max_successors}

-- an action has 1 to 16 successors
abbrev pub FewSuccessors : List ℕ → Type 0
FewSuccessors ts = (1 ≤ length ts) × (length ts ≤ max_successors)

abbrev pub ActionsShaped : List Action → Type 0
ActionsShaped [] = Unit {0}
ActionsShaped (a ∷ more) = FewSuccessors a.successors × ActionsShaped more

-- a decision has 0 to 16 actions, each with 1 to 16 successors
abbrev pub NodeShaped : Node → Type 0
NodeShaped (terminal cost) = Unit {0}
NodeShaped (decision form acts) = (length acts ≤ max_actions) × ActionsShaped acts

abbrev pub NodesShaped : List Node → Type 0
NodesShaped [] = Unit {0}
NodesShaped (n ∷ ns) = NodeShaped n × NodesShaped ns

-- nothing is chosen at a terminal: its field has no place for it
abbrev pub ChosenShaped : Node → Cell → Type 0
ChosenShaped (terminal cost) c = c.chosen ≡ 0
ChosenShaped (decision form acts) c = Unit {0}

pub record Shaped (p : Problem) (cells : List Cell) : Type 0 where
  pub some : 1 ≤ states p
  pub most : states p ≤ max_states
  pub start : p.start < states p
  pub nodes : NodesShaped p.nodes
  pub count : length cells ≡ states p
  pub chosen : (s : ℕ) → s < states p → ChosenShaped (node_at p s) (cell_of cells s)

-- every successor is a state, wherever it lies
abbrev pub Inside : Problem → Type 0
Inside p = (s i t : ℕ) (form : Form) (acts : List Action) → node_at p s ≡ decision form acts → t ∈ (action_at acts i).successors →
    t < states p

abbrev pub set_mark : List Cell → ℕ → ℕ → List Cell
set_mark cells s m = set cells s (cell (cell_of cells s).value m (cell_of cells s).chosen)

abbrev pub set_chosen : List Cell → ℕ → ℕ → List Cell
set_chosen cells s i = set cells s (cell (cell_of cells s).value (cell_of cells s).mark i)
