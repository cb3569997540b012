-- What a visit to a decision has in hand.
use Rattle.std.specs.Prelude.{ℕ, ◌<◌, ◌≤◌, ◌≡◌, List, length}
use Rattle.model.specs.Problem.{Problem, states, node_at, action_at, value_of}
use Rattle.model.specs.Format.{value_offset, actions_of, action_offset}
use Rattle.model.specs.Read.{problem_of, cells_of}
use Rattle.model.specs.QValue.{q}
use Rattle.sheet.specs.Sheet.{Sheet, Decision}
use Rattle.search.specs.declared.visits.OpenDecision.{OpenDecision}

-- the value of state i of p stands at `at`, and is `value`
pub record ValueAt (s t : List ℕ) (p : Problem) (i at value : ℕ) : Type 0 where
  pub sheet : Sheet s t p (cells_of s)
  pub below : i < states p
  pub place : at ≡ value_offset p i
  pub is : value ≡ value_of (cells_of s) i

-- a decision of the sheet that has an action, with where its value stands and what it is
pub record Opens (s t : List ℕ) (d : OpenDecision) : Type 0 where
  pub decision : Decision s t d.state
  pub some : 0 < length (actions_of (node_at (problem_of s) d.state))
  pub place : d.cell ≡ value_offset (problem_of s) d.state
  pub is : d.value ≡ value_of (cells_of s) d.state

-- its action n stands at `a`, and its price is not above the value
pub record Fair (s : List ℕ) (d : OpenDecision) (n a : ℕ) : Type 0 where
  pub exists : n < length (actions_of (node_at (problem_of s) d.state))
  pub place : a ≡ action_offset (problem_of s) d.state n
  pub cheap : q (problem_of s).kind (value_of (cells_of s)) (action_at (actions_of (node_at (problem_of s) d.state)) n) ≤ d.value
