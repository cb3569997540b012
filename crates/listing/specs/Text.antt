-- Text as bytes: words in ASCII, and numbers in decimal.
use Rattle.std.specs.Prelude.{ℕ, zero, suc, ◌+◌, ◌/◌, ◌%◌, List, [], ◌∷◌, ◌++◌, ltb}
use Prim.Native.Char.{code}
use Prim.Native.String.{String, [] as nothing, ◌∷◌ as ◌then◌}
use Rattle.model.specs.Tests.{fork}

-- the codes of a text's characters
abbrev pub ascii : String → List ℕ
ascii nothing = []
ascii (c then more) = code c ∷ ascii more

-- the last digit of a number
abbrev pub last_digit : ℕ → ℕ
last_digit x = 48 + x % 10

-- the digits of a number below k, the most significant first, with no zeros in front
unfoldable pub digits : ℕ → ℕ → List ℕ
digits zero x = []
digits (suc k) x = fork (ltb x 10) (λ _. last_digit x ∷ []) (λ _. digits k (x / 10) ++ last_digit x ∷ [])

-- S10.4: a number in decimal
abbrev pub decimal : ℕ → List ℕ
decimal x = digits (suc x) x
