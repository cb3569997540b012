-- States that have no action to try: a terminal, and a decision without actions.
use Prim.Native.Nat.{ℕ, ◌<◌, ◌≤◌}
use mathlib.Core.Path.{◌≡◌, refl, sym}
use mathlib.Core.Bool.{false}
use mathlib.Core.Option.{some}
use mathlib.Core.List.{List, [], ◌∷◌}
use native.Mathlib.Omega.{arith}
use lib.ListN.{length}
use Rattle.model.specs.Problem.{Node, terminal, decision, Problem, Cell, states, node_at, cell_of, solved}
use Rattle.model.specs.Format.{terminal_tag, tag_of, actions_of}
use Rattle.model.specs.Limits.{no_plan}
use Rattle.model.specs.Ldfs.{finish}
use Rattle.sheet.specs.Sheet.{terminal_cost}
use Rattle.layout.proofs.Places.{other_tag}
use Rattle.theory.specs.Consistent.{end_of, WellFormed}
use Rattle.theory.proofs.Turns.{visit-end}
use Rattle.search.specs.declared.visits.Visited.{Visited}
use Rattle.search.specs.Did.{search, visiting, Did}
use Rattle.search.proofs.Updates.{also-said}

pub terminal-end : (n : Node) → tag_of n ≡ terminal_tag → end_of n ≡ some (terminal_cost n)
unfolding tag_of terminal_cost
terminal-end (terminal cost) e = refl
terminal-end (decision form acts) e = absurd (other_tag form terminal_tag refl e)

pub barren-end : (n : Node) → (tag_of n ≡ terminal_tag → ⊥) → length (actions_of n) ≤ 0 → end_of n ≡ some no_plan
unfolding tag_of actions_of
barren-end (terminal cost) e none = absurd (omega arith)
barren-end (decision form []) e none = refl
barren-end (decision form (a ∷ more)) e none = absurd (omega arith)

-- such a state, open, that was finished at x has been visited
pub ends-said : {s t : List ℕ} {p : Problem} (cells : List Cell) (budget i r x : ℕ) {v : Visited} → WellFormed p → i < states p →
    solved (cell_of cells i) ≡ false → end_of (node_at p i) ≡ some x →
    Did t p s v (finish budget i x (search cells r)) →
    Did t p s v (visiting p budget i (search cells r))
ends-said {p = p} cells budget i r x wf below open-state ends did-it =
    also-said did-it (sym (visit-end p budget wf i (search cells r) below x open-state ends))
