-- What the contracts of the private functions say.
use Rattle.std.specs.Prelude.{ℕ, ◌<◌, ◌≡◌, Bool, true, List, [], ◌∷◌, leb, length, set}
use Rattle.std.specs.List.{prefix_len}
use Rattle.model.specs.Problem.{Action, Form, decision, Problem, Cell, node_at, cell_of}
use Rattle.model.specs.Read.{problem_of, cells_of}
use Rattle.model.specs.Policy.{Closed, written}
use Rattle.theory.specs.Consistent.{WellFormed}

-- the most digits of a number of 64 bits; what follows is the most bytes of parts of a line, with so many digits for every number
abbrev pub max_digits : ℕ
max_digits = 20

-- a refusal's line
abbrev pub max_refused : ℕ
max_refused = 29

-- behind an outcome's word: three numbers, and the line's end
abbrev pub max_figures : ℕ
max_figures = 63

-- ` check ` with a number, or ` end`
abbrev pub max_choice : ℕ
max_choice = 27

-- behind a stage's value: ` by ` with a number, and the line's end
abbrev pub max_line_end : ℕ
max_line_end = 25

-- what listing the sheet whose bytes are s supposes: its problem is well formed, and the start's plan is complete, as work leaves them when
-- settled
pub record Listable (s : List ℕ) : Type 0 where
  pub formed : WellFormed (problem_of s)
  pub complete : Closed (problem_of s) (written (cells_of s)) (problem_of s).start

-- where stage i is a junction, its chosen check is one of its checks
abbrev pub Chooses : Problem → List Cell → ℕ → Type 0
Chooses p cells i = (form : Form) (acts : List Action) → node_at p i ≡ decision form acts → (cell_of cells i).chosen < length acts

-- flags with some more of them up
unfoldable pub flagged : List Bool → List ℕ → List Bool
flagged flags [] = flags
flagged flags (t ∷ ts) = flagged (set flags t true) ts

-- how many entries of a table, from its first on, are at most x
unfoldable pub up_to : ℕ → List ℕ → ℕ
up_to x table = prefix_len (λ entry. leb entry x) table
