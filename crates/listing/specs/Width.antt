-- S10.10: how many digits a number has, counted in a table of the powers of ten.
use Rattle.std.specs.Prelude.{ℕ, zero, suc, ◌^◌, ◌<◌, ◌≡◌, Bool, List, [], ◌∷◌, ◌++◌, leb, eqb, length, get_or, drop}
use Rattle.model.specs.Tests.{fork, every}
use Rattle.listing.specs.Text.{decimal}

-- n powers of ten in their order, from 10 to the k on
unfoldable pub powers_from : ℕ → ℕ → List ℕ
powers_from k zero = []
powers_from k (suc n) = 10 ^ k ∷ powers_from (suc k) n

-- the table: the twenty powers of ten that fit 64 bits
unfoldable pub powers : List ℕ
powers = powers_from 0 20

-- what it is to be that table: entry i is 10 to the i and fits, and every power of ten that fits has its entry
pub record PowersThatFit (table : List ℕ) : Type 0 where
  pub twenty : length table ≡ 20
  pub entry : (i : ℕ) → i < 20 → get_or table i 0 ≡ 10 ^ i
  pub fits : (i : ℕ) → i < 20 → 10 ^ i < 2 ^ 64
  pub all : (i : ℕ) → 10 ^ i < 2 ^ 64 → i < 20

-- the power rule as one test of all entries together, by which the code's table is tied to it
unfoldable pub power_rule : List ℕ → Bool
power_rule table = every (length table) (λ i. eqb (get_or table i 0) (10 ^ i))

-- how many entries of a table are at most x
unfoldable pub at_most : ℕ → List ℕ → ℕ
at_most x [] = 0
at_most x (p ∷ more) = fork (leb p x) (λ _. suc (at_most x more)) (λ _. at_most x more)

-- a number's width: the count of entries at most the number, 1 for 0
unfoldable pub width_of : ℕ → ℕ
width_of x = fork (eqb x 0) (λ _. 1) (λ _. at_most x powers)

-- a buffer after a number was written at its beginning; one of fewer bytes than the number's width is left as it is
unfoldable pub number_in : ℕ → List ℕ → List ℕ
number_in x out = fork (leb (width_of x) (length out)) (λ _. decimal x ++ drop (width_of x) out) (λ _. out)
