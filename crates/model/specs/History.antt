-- S6.12: the history of work: the changes of values that raises make, one after the other.
use Rattle.std.specs.Prelude.{ℕ, ◌<◌, ◌≡◌, false, List, [], ◌∷◌}
use Rattle.model.specs.Problem.{Problem, states}
use Rattle.model.specs.Ldfs.{Search, value_at, solved_at, raised, marked}
use Rattle.model.specs.Optimal.{bellman_cut}

-- a change of a value: at which stage, from what, and to what
pub record Change : Type 0 where
  pub stage : ℕ
  pub old : ℕ
  pub new : ℕ

abbrev pub change : ℕ → ℕ → ℕ → Change
change s old new = record { stage = s; old = old; new = new }

-- from one search to another by steps of the procedure, and the changes of values on the way. A raise gives an open stage the value that
-- the Bellman equation has there by the values as they are: an ending's cost, the least price of a junction's checks, none where there are
-- no checks. It is larger than the old one, and `raised` counts it as one. A mark (`marked`) changes no value and counts nothing. There
-- are no other steps: an update to the value that is there already leaves the search as it is.
pub data History (p : Problem) : Search → List Change → Search → Type 0 where
  nothing : {w : Search} → History p w [] w
  raise : {w w' : Search} {more : List Change} (s x : ℕ) → s < states p → solved_at w s ≡ false →
      x ≡ bellman_cut p s (value_at w) → value_at w s < x →
      History p (raised s x w) more w' → History p w (change s (value_at w s) x ∷ more) w'
  mark : {w w' : Search} {changes : List Change} (s i : ℕ) → s < states p → solved_at w s ≡ false →
      History p (marked s i w) changes w' → History p w changes w'
