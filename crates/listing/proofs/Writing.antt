-- Texts, one behind the other, and a number's digits, from the last to the first.
use Prim.Native.Nat.{ℕ, ◌+◌, ◌-◌, ◌/◌, ◌^◌, ◌<◌, ◌≤◌}
use mathlib.Core.Path.{◌≡◌, refl, ap, sym, ◌∙◌}
use mathlib.Core.Bool.{Bool, true, false}
use mathlib.Core.List.{List, [], ◌∷◌, ◌++◌, append-nil, append_assoc}
use native.Mathlib.Omega.{arith}
use borrow.Author.Tests.{ltb-true, ltb-false, le-leb, lt-leb}
use lib.Dec.{ltb}
use lib.ListN.{length, drop, set, length-append}
use Rattle.std.proofs.lemmas.List.{drop_all, drop-set}
use Rattle.layout.proofs.Wrote.{wrote-length}
use Rattle.sheet.specs.declared.put.Page.{Page}
use Rattle.listing.specs.Text.{last_digit, decimal}
use Rattle.listing.specs.Width.{width_of, number_in}
use Rattle.sheet.specs.Put.{HasRoom, Appended}
use Rattle.listing.proofs.Decimal.{decimal-one, decimal-more}
use Rattle.listing.proofs.Widths.{decimal-few}

-- A number, from its last digit to its first: what is left of it has the digits that stand before those that are written, from place i on.
pub record Digits (s : List ℕ) (x i rest : ℕ) : Type 0 where
  pub front : List ℕ
  pub all : decimal x ≡ front ++ drop i s
  pub left : 0 < i → front ≡ decimal rest
  pub place : i ≡ length front

-- at first no digit is written, then each turn writes the last one of what is left, and in the end all are
pub no_digit : (s : List ℕ) (x : ℕ) → length s ≡ length (decimal x) → Digits s x (length s) x
no_digit s x e = record {
  front = decimal x;
  all = rw (drop_all (length s) s (omega arith)) (sym (append-nil (decimal x)));
  left = λ _. refl;
  place = e;
}

pub next-digit : {s : List ℕ} {x i rest : ℕ} (b : ℕ) → Digits s x i rest → 0 < i → i ≤ length s → b ≡ last_digit rest →
    Digits (set s (i - 1) b) x (i - 1) (rest / 10)
next-digit {s} {x} {i} {rest} b d lt within e = go (ltb rest 10) refl
  where
    written : drop (i - 1) (set s (i - 1) b) ≡ b ∷ drop i s
    written = let next : i - 1 + 1 ≡ i = omega arith in rw (drop-set s (i - 1) b (omega arith), next) refl

    made : (front : List ℕ) → decimal rest ≡ front ++ last_digit rest ∷ [] → (0 < i - 1 → front ≡ decimal (rest / 10)) →
        Digits (set s (i - 1) b) x (i - 1) (rest / 10)
    made front digits left = record {
      front = front;
      all = rw (written, d.all, d.left lt, digits, e) (append_assoc front (last_digit rest ∷ []) (drop i s));
      left = left;
      place = omega (arith, d.place, ap length (d.left lt ∙ digits), length-append front (last_digit rest ∷ []));
    }

    go : (t : Bool) → ltb rest 10 ≡ t → Digits (set s (i - 1) b) x (i - 1) (rest / 10)
    go true t =
        let one = decimal-one rest (ltb-true _ _ t) in
        made [] one (λ more. absurd (omega (arith, d.place, ap length (d.left lt ∙ one))))
    go false t = made (decimal (rest / 10)) (decimal-more rest (ltb-false _ _ t)) (λ _. refl)

pub all_digits : {s : List ℕ} {x i rest : ℕ} → Digits s x i rest → i ≤ 0 → s ≡ decimal x
all_digits {s} {x} {i} {rest} d le = go d.front refl
  where
    go : (front : List ℕ) → d.front ≡ front → s ≡ decimal x
    go [] e = let here : i ≡ 0 = omega arith in rw (d.all, e, here)
    go (f ∷ more) e = absurd (omega (arith, d.place, ap length e))

-- a number has room behind a word
pub number-room : {p q : Page} {w : List ℕ} (x : ℕ) → Appended p q w → x < 2 ^ 64 → HasRoom p (length w + 20) →
    HasRoom q (length (decimal x))
number-room x a h room = omega (arith, a.wrote.behind, wrote-length a.wrote, decimal-few x h)

pub field_end : {p q : Page} (w : List ℕ) (x : ℕ) → Appended p q (w ++ decimal x) → x < 2 ^ 64 → q.end ≤ p.end + length w + 20
field_end w x a h = omega (arith, a.wrote.behind, length-append w (decimal x), decimal-few x h)

-- a number of width n at the beginning of a buffer, where that has room for it and where not
module _ (x n : ℕ) (s : List ℕ) (width : n ≡ width_of x) where
  pub number_fits : {text : List ℕ} → n ≤ length s → text ≡ decimal x → text ++ drop n s ≡ number_in x s
  unfolding number_in
  number_fits room e = rw (← width, le-leb n (length s) room, e)

  pub number-long : length s < n → s ≡ number_in x s
  unfolding number_in
  number-long h = rw (← width, lt-leb n (length s) h)
