-- What question 8 may suppose of those before it.
use Prim.Native.Nat.{ℕ, ◌<◌}
use mathlib.Core.Path.{◌≡◌}
use mathlib.Core.Bool.{true}
use mathlib.Core.List.{List, [], ◌∷◌}
use native.Mathlib.Omega.{arith}
use borrow.Author.Tests.{ltb-true}
use lib.ListN.{length}
use Rattle.model.proofs.TestLaws.{all_true, every_true}
use Rattle.model.specs.Problem.{Node, terminal, decision, Problem, Cell, states, node_at, cell_of, solved}
use Rattle.model.specs.Format.{actions_of}
use Rattle.model.specs.Questions.{chosen_in_range, cell_in_range, question5}
use Rattle.questions.specs.Put.{ChosenExists}

-- question 5 gives that a solved decision's chosen action exists
pub chosen-exists : (p : Problem) (cells : List Cell) → question5 p cells ≡ true → (s : ℕ) → s < states p →
    solved (cell_of cells s) ≡ true → ChosenExists p cells s
unfolding question5 cell_in_range chosen_in_range actions_of
chosen-exists p cells five s lt sol = go (node_at p s) (all_true _ (all_true _ (every_true (states p) _ five s lt)).1.0).1.1.0
  where
    go : (n : Node) → chosen_in_range n (cell_of cells s) ≡ true → 0 < length (actions_of n) →
        (cell_of cells s).chosen < length (actions_of n)
    go (terminal cost) h some = absurd (omega arith)
    go (decision form []) h some = absurd (omega arith)
    go (decision form (a ∷ more)) h some = ltb-true _ _ (rw sol at h)
