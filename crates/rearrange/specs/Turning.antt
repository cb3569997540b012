-- What the contracts of the private functions suppose and say.
use Rattle.std.specs.Prelude.{ℕ, ◌+◌, ◌-◌, ◌<◌, ◌≤◌, ◌≡◌, ◌⊎◌, List, ◌++◌, length, take, drop}
use Rattle.model.specs.Problem.{Problem, states, ◌∈◌}
use Rattle.model.specs.Format.{write}
use Rattle.model.specs.Read.{problem_of, cells_of}
use Rattle.order.specs.Moved.{at, moved, moved_cells}
use Rattle.order.specs.Order.{order}
use Rattle.order.specs.Claims.{Perm}
use Rattle.order.specs.Times.{times}
use Rattle.rearrange.specs.Waits.{waiting}
use Rattle.layout.specs.Shape.{Inside}

-- the numbers that an array gives to some states: each has an entry, which fits two bytes
abbrev pub Numbers : List ℕ → List ℕ → Type 0
Numbers to ts = (t : ℕ) → t ∈ ts → (t < length to) × (at to t < 65536)

-- the first n entries of two arrays are a renumbering of n states
pub record Renumbers (n : ℕ) (from to : List ℕ) : Type 0 where
  pub from_long : n ≤ length from
  pub to_long : n ≤ length to
  pub perm : Perm n (take n from) (take n to)

-- the sheet s renumbered so, with a tag in its head
abbrev pub turned : ℕ → List ℕ → ℕ → List ℕ → List ℕ → List ℕ
turned tag s n from to = write (moved tag (take n from) (take n to) (problem_of s)) (moved_cells (take n from) (cells_of s))

-- a buffer that begins with some bytes and is as it was behind them
abbrev pub over : List ℕ → List ℕ → List ℕ
over made out = made ++ drop (length made) out

-- a draft's problem with every state placed: `old` begins with the order, and `waits` has 1 more than each new number
pub record Placed (p : Problem) (n : ℕ) (old waits : List ℕ) : Type 0 where
  pub inside : Inside p
  pub full : length (order p) ≡ states p
  pub long : n ≤ length old
  pub wide : n ≤ length waits
  pub places : take n old ≡ order p
  pub counts : (u : ℕ) → u < n → at waits u ≡ waiting p (order p) u

-- the first n entries of b are 1 less than those of a, which are not 0
pub record OneLess (n : ℕ) (a b : List ℕ) : Type 0 where
  pub same : length b ≡ length a
  pub less : (u : ℕ) → u < n → at b u + 1 ≡ at a u

-- an entry for each number below n: 0 where it is none of the first i of a list, else 1 more than a place at which it is
pub record Marked (list : List ℕ) (n i : ℕ) (new₀ new : List ℕ) : Type 0 where
  pub same : length new ≡ length new₀
  pub upto : i ≤ n
  pub each : (t : ℕ) → t < n →
      ((at new t ≡ 0) × (times t (take i list) ≡ 0)) ⊎ ((1 ≤ at new t) × (at new t ≤ i) × (at list (at new t - 1) ≡ t))
