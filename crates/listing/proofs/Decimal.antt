-- Numbers in decimal: a number's digits are those of its tenth, and its last.
use Prim.Native.Nat.{ℕ, zero, suc, ◌+◌, ◌/◌, ◌<◌, ◌≤◌}
use mathlib.Core.Path.{◌≡◌, refl, ap, ◌∙◌}
use mathlib.Core.Bool.{Bool, true, false}
use mathlib.Core.List.{List, [], ◌∷◌, ◌++◌}
use native.Mathlib.Omega.{arith}
use borrow.Author.Tests.{lt-ltb, le-ltb, ltb-false}
use lib.Dec.{ltb}
use lib.ListN.{length, length-append}
use Rattle.listing.specs.Text.{last_digit, digits, decimal}

-- more room for the digits changes nothing
digits_same : (k l x : ℕ) → x < k → x < l → digits k x ≡ digits l x
unfolding digits
digits_same zero l x h g = absurd (omega arith)
digits_same (suc k) zero x h g = absurd (omega arith)
digits_same (suc k) (suc l) x h g = go (ltb x 10) refl (digits_same k l (x / 10))
  where
    go : (b : Bool) → ltb x 10 ≡ b → (x / 10 < k → x / 10 < l → digits k (x / 10) ≡ digits l (x / 10)) →
        digits (suc k) x ≡ digits (suc l) x
    go true e ih = rw e
    go false e ih = let le : 10 ≤ x = ltb-false _ _ e in rw (e, ih (omega arith) (omega arith))

pub decimal-one : (x : ℕ) → x < 10 → decimal x ≡ last_digit x ∷ []
unfolding digits
decimal-one x h = rw (lt-ltb x 10 h)

pub decimal-more : (x : ℕ) → 10 ≤ x → decimal x ≡ decimal (x / 10) ++ last_digit x ∷ []
unfolding digits
decimal-more x h =
    let same = digits_same x (suc (x / 10)) (x / 10) (omega arith) (omega arith) in
    rw (le-ltb x 10 h) (ap (λ (l : List ℕ). l ++ last_digit x ∷ []) same)

pub more-length : (x : ℕ) → 10 ≤ x → length (decimal x) ≡ length (decimal (x / 10)) + 1
more-length x h = ap length (decimal-more x h) ∙ length-append (decimal (x / 10)) (last_digit x ∷ [])
