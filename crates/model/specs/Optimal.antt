-- S2.5: the least cost of a stage, V*, the solution of the Bellman equation: uncut, or none. And gaps (S8.8).
use Rattle.std.specs.Prelude.{ℕ, zero, suc, ◌+◌, ◌-◌, List}
use Rattle.std.proofs.Math.Option.{none, some}
use Rattle.model.specs.Problem.{Kind, Node, terminal, decision, Problem, Cell, states, node_at, value_of}
use Rattle.model.specs.Cost.{Cost, cut, amount}
use Rattle.model.specs.QValue.{q_full, q, least, least_cost}

-- f with f s ≡ step s f, where step s looks at stages above s only; the number bounds how deep it looks
unfoldable pub solution : (ℕ → (ℕ → Cost) → Cost) → ℕ → ℕ → Cost
solution step zero s = step s (λ t. none)
solution step (suc n) s = step s (solution step n)

-- the right side of the Bellman equation: at an ending its cost, at a junction the least, over its checks, of the check's cost plus the
-- largest, or the sum, of v at its findings; none at a junction without checks
unfoldable pub bellman_at : Kind → (ℕ → Cost) → Node → Cost
bellman_at k v (terminal cost) = some cost
bellman_at k v (decision form acts) = least_cost (q_full k v) acts

abbrev pub bellman : Problem → ℕ → (ℕ → Cost) → Cost
bellman p s v = bellman_at p.kind v (node_at p s)

-- V*, the least cost
unfoldable pub optimal : Problem → ℕ → Cost
optimal p = solution (bellman p) (states p)

-- the right side of the equation as it is written: the same of values, cut to the ceiling or none, which is the price of a check
unfoldable pub bellman_cut_at : Kind → (ℕ → ℕ) → Node → ℕ
bellman_cut_at k v (terminal cost) = cut cost
bellman_cut_at k v (decision form acts) = least (q k v) acts

abbrev pub bellman_cut : Problem → ℕ → (ℕ → ℕ) → ℕ
bellman_cut p s v = bellman_cut_at p.kind v (node_at p s)

-- S8.8, a stage's gap: its least cost as it is written, cut to the ceiling or 1,000,000,001 for none, less its value
abbrev pub gap : Problem → List Cell → ℕ → ℕ
gap p cells s = amount (optimal p s) - value_of cells s

unfoldable pub sum_below : ℕ → (ℕ → ℕ) → ℕ
sum_below zero f = 0
sum_below (suc n) f = sum_below n f + f n

-- the gaps of all stages
abbrev pub gaps : Problem → List Cell → ℕ
gaps p cells = sum_below (states p) (gap p cells)
