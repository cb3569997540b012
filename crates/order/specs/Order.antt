-- S13.2 to S13.4: the order in which a draft's stages are placed. Next is the lowest old number to which no unplaced junction points.
use Rattle.std.specs.Prelude.{ℕ, zero, suc, ◌+◌, Bool, true, false, not, List, [], ◌∷◌, ◌++◌, map, length, get_or, take, eqb, leb, ltb}
use Rattle.model.specs.Tests.{fork, also, every}
use Rattle.model.specs.Problem.{Action, Node, terminal, decision, Problem, states, node_at}

-- t is one of the listed
unfoldable pub among : ℕ → List ℕ → Bool
among t [] = false
among t (u ∷ us) = fork (eqb t u) (λ _. true) (λ _. among t us)

-- S13.2, a stage points to t: some check of the junction has t for a finding
unfoldable pub some_leads : List Action → ℕ → Bool
some_leads [] t = false
some_leads (a ∷ more) t = fork (among t a.successors) (λ _. true) (λ _. some_leads more t)

unfoldable pub points_to : Node → ℕ → Bool
points_to (terminal cost) t = false
points_to (decision form acts) t = some_leads acts t

-- s is placed, or does not point to t
unfoldable pub leaves : Problem → List ℕ → ℕ → ℕ → Bool
leaves p placed t s = fork (among s placed) (λ _. true) (λ _. not (points_to (node_at p s) t))

-- t may be placed: it is not placed yet, and no unplaced junction points to it
unfoldable pub free : Problem → List ℕ → ℕ → Bool
free p placed t = also (not (among t placed)) (λ _. every (states p) (leaves p placed t))

-- the lowest of the k numbers from t on that passes; t + k where none does
unfoldable pub lowest : ℕ → ℕ → (ℕ → Bool) → ℕ
lowest zero t f = t
lowest (suc k) t f = fork (f t) (λ _. t) (λ _. lowest k (suc t) f)

-- what is placed next, looked for anew among all stages: the number of stages where nothing can be
abbrev pub next : Problem → List ℕ → ℕ
next p placed = lowest (states p) 0 (free p placed)

-- at most k more placed behind some: it ends where nothing can be placed
unfoldable pub placing : Problem → ℕ → List ℕ → List ℕ
placing p zero placed = placed
placing p (suc k) placed = fork (ltb (next p placed) (states p)) (λ _. placing p k (placed ++ (next p placed ∷ []))) (λ _. placed)

-- S13.3: the old numbers in the order in which they are placed; all of them, unless findings lead in a circle
unfoldable pub order : Problem → List ℕ
order p = placing p (states p) []

-- Lists of old numbers.
-- n numbers from s on
unfoldable pub up_from : ℕ → ℕ → List ℕ
up_from s zero = []
up_from s (suc n) = s ∷ up_from (suc s) n

-- how many stand before t: its new number
unfoldable pub place_of : List ℕ → ℕ → ℕ
place_of [] t = 0
place_of (u ∷ us) t = fork (eqb t u) (λ _. 0) (λ _. suc (place_of us t))

-- entry t is the place of t: the new numbers by the old ones
unfoldable pub inverse : List ℕ → List ℕ
inverse old = map (place_of old) (up_from 0 (length old))

-- every stage number is one of the listed
unfoldable pub lists : ℕ → List ℕ → Bool
lists n old = every n (λ t. among t old)
