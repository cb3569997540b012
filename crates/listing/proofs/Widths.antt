-- The table of the powers of ten, and the widths that it gives (S10.10): of every number of 64 bits the count of its digits.
use Prim.Native.Nat.{ℕ, zero, suc, ◌+◌, ◌/◌, ◌^◌, ◌<◌, ◌≤◌, max}
use mathlib.Core.Path.{◌≡◌, refl, ap, sym, ◌∙◌}
use mathlib.Core.Bool.{Bool, true, false}
use mathlib.Core.Logic.{⊎_elim}
use mathlib.Core.List.{List, [], ◌∷◌}
use native.Mathlib.Omega.{arith}
use native.Mathlib.Nat.{eq-or-lt_of_le, one-le-pow, pow-le-pow_right}
use native.Mathlib.Numerals.{add-one}
use borrow.Author.Tests.{eqb-true, ne_eqb, le-leb, lt-leb, leb-true, leb-false}
use lib.Dec.{eqb, leb}
use lib.ListN.{length, get_or}
use Rattle.std.proofs.lemmas.List.Sums.{prefix_len-le-length, prefix_len_passes, prefix_len_stops}
use Rattle.model.specs.Tests.{also, every}
use Rattle.model.proofs.TestLaws.{every_true}
use Rattle.listing.specs.Text.{decimal}
use Rattle.listing.specs.Width.{power_rule, PowersThatFit, powers_from, powers, at_most, width_of}
use Rattle.listing.specs.Put.{up_to}
use Rattle.listing.proofs.Decimal.{decimal-one, more-length}

-- powers rise with their exponents
powers-rise : (i j : ℕ) → i ≤ j → 10 ^ i ≤ 10 ^ j
powers-rise i j h = pow-le-pow_right (omega arith) h

-- What the one test of all entries says of each, where there are twenty; and there are no more.
pub rule_fits : (table : List ℕ) → length table ≡ 20 → power_rule table ≡ true → PowersThatFit table
unfolding power_rule
rule_fits table twenty rule = record {
  twenty = twenty;
  entry = λ i h. eqb-true _ _ (every_true (length table) (λ k. eqb (get_or table k 0) (10 ^ k)) rule i (omega (arith, twenty)));
  fits = λ i h. let le = powers-rise i 19 (omega arith) in omega (arith, le);
  all = below;
}
  where
    below : (i : ℕ) → 10 ^ i < 2 ^ 64 → i < 20
    below i h = go (leb 20 i) refl
      where
        go : (b : Bool) → leb 20 i ≡ b → i < 20
        go true e = let le = powers-rise 20 i (leb-true 20 i e) in absurd (omega (arith, le))
        go false e = leb-false 20 i e

pub powers-fit : PowersThatFit powers
unfolding power_rule also every powers_from powers
powers-fit = rule_fits powers refl refl

-- x is below 10 to the n, and of the powers before that only the first may be above x
pub record Spans (x n : ℕ) : Type 0 where
  pub some : 1 ≤ n
  pub low : (i : ℕ) → 1 ≤ i → i < n → 10 ^ i ≤ x
  pub high : x < 10 ^ n

-- where a power is at most x, so are the lower ones
pub lower : (x n : ℕ) → 10 ^ n ≤ x → (i : ℕ) → 1 ≤ i → i < suc n → 10 ^ i ≤ x
lower x n h i one lt = let le = powers-rise i n (omega arith) in omega (arith, le)

-- every number spans some powers
spanned : (m x : ℕ) → x < 10 ^ suc m → (n : ℕ) × (n ≤ suc m) × Spans x n
spanned zero x h = (1, omega arith, record { some = omega arith; low = λ i one lt. absurd (omega arith); high = h })
spanned (suc m) x h = go (leb (10 ^ suc m) x) refl (spanned m x)
  where
    go : (b : Bool) → leb (10 ^ suc m) x ≡ b → (x < 10 ^ suc m → (n : ℕ) × (n ≤ suc m) × Spans x n) →
        (n : ℕ) × (n ≤ suc (suc m)) × Spans x n
    go true e ih = (suc (suc m), omega arith, record { some = omega arith; low = lower x (suc m) (leb-true _ _ e); high = h })
    go false e ih = let (n, few, s) = ih (leb-false _ _ e) in (n, omega arith, s)

-- a table has no more entries at most x than it has entries, and n where those before place n are, and the others not
at-most-few : (x : ℕ) (table : List ℕ) → at_most x table ≤ length table
unfolding at_most
at-most-few x [] = omega arith
at-most-few x (p ∷ more) = go (leb p x) refl (at-most-few x more)
  where
    go : (b : Bool) → leb p x ≡ b → at_most x more ≤ length more → at_most x (p ∷ more) ≤ suc (length more)
    go true e ih = rw e (omega arith)
    go false e ih = rw e (omega arith)

at-most-is : (x n : ℕ) (table : List ℕ) → n ≤ length table → ((i : ℕ) → i < n → get_or table i 0 ≤ x) →
    ((i : ℕ) → n ≤ i → i < length table → x < get_or table i 0) →
    at_most x table ≡ n
unfolding at_most
at-most-is x zero [] h low high = refl
at-most-is x (suc n) [] h low high = absurd (omega arith)
at-most-is x zero (p ∷ more) h low high =
    rw (lt-leb p x (high 0 (omega arith) (omega arith)))
    (at-most-is x zero more (omega arith) (λ i lt. absurd (omega arith)) (λ i le lt. high (suc i) (omega arith) (omega arith)))
at-most-is x (suc n) (p ∷ more) h low high =
    rw (le-leb p x (low 0 (omega arith)))
    (ap suc (at-most-is x n more (omega arith) (λ i lt. low (suc i) (omega arith)) (λ i le lt. high (suc i) (omega arith) (omega arith))))

-- Spanning n powers, a number has the width n, and n digits.
none-spans : (n : ℕ) → Spans 0 n → 1 ≡ n
none-spans zero s = absurd (omega (arith, s.some))
none-spans (suc zero) s = refl
none-spans (suc (suc k)) s = absurd (omega (arith, s.low 1 (omega arith) (omega arith)))

-- 0 alone has its width by another rule
width_some : (x : ℕ) → width_of (suc x) ≡ at_most (suc x) powers
unfolding width_of
width_some x = rw (ne_eqb (suc x) 0 (λ e. absurd (omega (arith, e))))

pub width_is : (x n : ℕ) → n ≤ 20 → Spans x n → width_of x ≡ n
unfolding width_of
width_is zero n h s = none-spans n s
width_is (suc x) n h s = width_some x ∙ at-most-is (suc x) n powers (omega (arith, powers-fit.twenty)) low high
  where
    low : (i : ℕ) → i < n → get_or powers i 0 ≤ suc x
    low zero lt = rw (powers-fit.entry 0 (omega arith)) (omega arith)
    low (suc i) lt = rw (powers-fit.entry (suc i) (omega arith)) (s.low (suc i) (omega arith) lt)

    high : (i : ℕ) → n ≤ i → i < length powers → suc x < get_or powers i 0
    high i le lt =
        let rise = powers-rise n i le in
        rw (powers-fit.entry i (omega (arith, powers-fit.twenty))) (omega (arith, s.high, rise))

-- so the width is the count of the entries from the first on that are at most x, or 1 where there is none
module _ (x n : ℕ) (table : List ℕ) (is : n ≡ up_to x table) where
  pub width-counts : x < 2 ^ 64 → PowersThatFit table → max n 1 ≡ width_of x
  unfolding up_to
  width-counts h fit =
      sym (width_is x (max n 1) (omega (arith, count-few)) (record { some = omega arith; low = low; high = high }))
    where
      count-few : n ≤ 20
      count-few = rw (is, ← fit.twenty) (prefix_len-le-length (λ p. leb p x) table)

      low : (i : ℕ) → 1 ≤ i → i < max n 1 → 10 ^ i ≤ x
      low i one lt =
          let passes = leb-true _ _ (prefix_len_passes (λ p. leb p x) table i 0 (omega (arith, is))) in
          rw (fit.entry i (omega (arith, count-few))) at passes

      stops : n < 20 → x < 10 ^ n
      stops lt =
          let stop = leb-false _ _ (prefix_len_stops (λ p. leb p x) table 0 (omega (arith, is, fit.twenty))) in
          rw (← is, fit.entry n lt) at stop

      below : n < 20 → x < 10 ^ max n 1
      below lt = let rise = powers-rise n (max n 1) (omega arith) in omega (arith, stops lt, rise)

      high : x < 10 ^ max n 1
      high = ⊎_elim (λ e. rw e (omega arith)) below (eq-or-lt_of_le count-few)

digits_are : (n x : ℕ) → Spans x n → length (decimal x) ≡ n
digits_are zero x s = absurd (omega (arith, s.some))
digits_are (suc zero) x s = ap length (decimal-one x s.high)
digits_are (suc (suc k)) x s = more-length x large ∙ ap (λ (m : ℕ). m + 1) (digits_are (suc k) (x / 10) tenth) ∙ add-one (suc k)
  where
    large : 10 ≤ x
    large = let some = one-le-pow k 10 (omega arith) in omega (arith, some, s.low (suc k) (omega arith) (omega arith))

    tenth : Spans (x / 10) (suc k)
    tenth = record {
      some = omega arith;
      low = λ i one lt. omega (arith, s.low (suc i) (omega arith) (omega arith));
      high = omega (arith, s.high);
    }

-- the width is the number of digits, of every number of 64 bits; and so that has at most twenty
pub width-digits : (x : ℕ) → x < 2 ^ 64 → width_of x ≡ length (decimal x)
width-digits x h = let (n, few, s) = spanned 19 x (omega arith) in width_is x n few s ∙ sym (digits_are n x s)

pub width_few : (x : ℕ) → width_of x ≤ 20
unfolding width_of
width_few zero = omega arith
width_few (suc x) = omega (arith, width_some x, at-most-few (suc x) powers, powers-fit.twenty)

pub decimal-few : (x : ℕ) → x < 2 ^ 64 → length (decimal x) ≤ 20
decimal-few x h = omega (arith, width-digits x h, width_few x)
