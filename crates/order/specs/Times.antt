-- How often a number is listed: for the laws.
use Rattle.std.specs.Prelude.{ℕ, ◌+◌, Bool, true, false, List, [], ◌∷◌, eqb}

-- 1 where a test holds
unfoldable pub one : Bool → ℕ
one true = 1
one false = 0

-- how often t is listed
unfoldable pub times : ℕ → List ℕ → ℕ
times t [] = 0
times t (u ∷ us) = one (eqb t u) + times t us
