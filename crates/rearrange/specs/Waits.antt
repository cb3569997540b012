-- What placing keeps: for each state how many successors of unplaced decisions it is, and once it is placed, 1 more than its new number.
use Rattle.std.specs.Prelude.{ℕ, zero, suc, ◌+◌, ◌-◌, List, [], ◌∷◌, ◌++◌, set}
use Rattle.model.specs.Tests.{fork}
use Rattle.model.specs.Problem.{Action, Problem, states, node_at}
use Rattle.model.specs.Format.{actions_of}
use Rattle.model.specs.Optimal.{sum_below}
use Rattle.order.specs.Order.{among, place_of}
use Rattle.order.specs.Moved.{at}
use Rattle.order.specs.Times.{times}

-- all successors of some actions, of a state, and of the states below k
unfoldable pub found : List Action → List ℕ
found [] = []
found (a ∷ more) = a.successors ++ found more

abbrev pub found_at : Problem → ℕ → List ℕ
found_at p s = found (actions_of (node_at p s))

unfoldable pub found_below : Problem → ℕ → List ℕ
found_below p zero = []
found_below p (suc k) = found_below p k ++ found_at p k

-- how often unplaced decisions have t for a successor, and what is kept of t
unfoldable pub pointers : Problem → List ℕ → ℕ → ℕ
pointers p xs t = sum_below (states p) (λ s. fork (among s xs) (λ _. 0) (λ _. times t (found_at p s)))

unfoldable pub waiting : Problem → List ℕ → ℕ → ℕ
waiting p xs t = fork (among t xs) (λ _. suc (place_of xs t)) (λ _. pointers p xs t)

-- numbers, with those at some places one more, and one less
unfoldable pub counted : List ℕ → List ℕ → List ℕ
counted ws [] = ws
counted ws (t ∷ ts) = counted (set ws t (at ws t + 1)) ts

unfoldable pub lessened : List ℕ → List ℕ → List ℕ
lessened ws [] = ws
lessened ws (t ∷ ts) = lessened (set ws t (at ws t - 1)) ts
