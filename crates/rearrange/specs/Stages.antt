-- What the contracts of the writing functions say.
use Rattle.std.specs.Prelude.{ℕ, ◌+◌, List, [], ◌∷◌, ◌++◌}
use Rattle.model.specs.Format.{action_tag, action_length, bytes2, bytes4, node_bytes, node_size}
use Rattle.model.specs.Problem.{Action, Problem, Cell, node_at, cell_of}
use Rattle.order.specs.Moved.{moved_node}

-- what a check's field begins with: tag, length and cost
abbrev pub heading : Action → List ℕ
heading a = action_tag ∷ bytes2 (action_length a) ++ bytes4 a.cost

-- the sizes of some stages' fields added up, and those fields renumbered
unfoldable pub sizes : Problem → List ℕ → ℕ
sizes p [] = 0
sizes p (s ∷ more) = node_size (node_at p s) + sizes p more

unfoldable pub stages_text : Problem → List Cell → List ℕ → List ℕ → List ℕ
stages_text p cells to [] = []
stages_text p cells to (s ∷ more) = node_bytes (moved_node to (node_at p s)) (cell_of cells s) ++ stages_text p cells to more
