-- Texts written one behind the other, and the numbers of a row, two bytes each.
use Prim.Native.Nat.{ℕ, ◌+◌, ◌*◌, ◌<◌, ◌≤◌}
use mathlib.Core.Path.{◌≡◌, refl, ap, sym, ◌∙◌}
use mathlib.Core.List.{List, [], ◌∷◌, ◌++◌}
use native.Mathlib.Omega.{arith}
use native.Mathlib.Numerals.{add-one}
use lib.ListN.{length, get_or, take}
use lib.Seq.{length-take-le, take-suc}
use Rattle.model.specs.Format.{bytes2, successors_bytes}
use Rattle.layout.proofs.Wrote.{wrote_none, wrote-length, wrote-behind, wrote_as}
use Rattle.sheet.specs.declared.put.Page.{Page}
use Rattle.sheet.specs.Put.{HasRoom, Appended}

-- nothing written, one text behind another, and the same text said otherwise
pub appended_none : (p : Page) → HasRoom p 0 → Appended p p []
appended_none p room = record { same = refl; wrote = wrote_none p.out.now p.end (omega (arith, room)) }

pub appended-behind : {p q r : Page} {x y : List ℕ} → Appended p q x → Appended q r y → Appended p r (x ++ y)
appended-behind a b = record { same = b.same ∙ a.same; wrote = wrote-behind a.wrote b.wrote }

pub appended_as : {p q : Page} {x y : List ℕ} → Appended p q x → x ≡ y → Appended p q y
appended_as a e = record { same = a.same; wrote = wrote_as a.wrote e }

-- room for a text and more is room for more behind the text
pub room-behind : {p q : Page} {x : List ℕ} (m n : ℕ) → Appended p q x → length x + n ≤ m → HasRoom p m → HasRoom q n
room-behind m n a le room = omega (arith, a.wrote.behind, wrote-length a.wrote, le, room)

row-bytes : (ts : List ℕ) → length (successors_bytes ts) ≡ 2 * length ts
unfolding successors_bytes
row-bytes [] = refl
row-bytes (t ∷ ts) = omega (arith, row-bytes ts)

row_last : (ts : List ℕ) (t : ℕ) → successors_bytes (ts ++ (t ∷ [])) ≡ successors_bytes ts ++ bytes2 t
unfolding successors_bytes
row_last [] t = refl
row_last (u ∷ us) t = ap (λ (l : List ℕ). bytes2 u ++ l) (row_last us t)

-- the first j numbers of a row are written
pub record Rowing (row : List ℕ) (p q : Page) (j : ℕ) : Type 0 where
  pub wrote : Appended p q (successors_bytes (take j row))

pub rowing_start : (row : List ℕ) (p : Page) → HasRoom p 0 → Rowing row p p 0
unfolding successors_bytes
rowing_start row p room = record { wrote = appended_none p room }

module _ {row : List ℕ} {p q : Page} {j : ℕ} (h : Rowing row p q j) where
  pub rowing-room : j < length row → HasRoom p (2 * length row) → HasRoom q 2
  rowing-room l = room-behind _ _ h.wrote (omega (arith, row-bytes (take j row), length-take-le j row (omega arith)))

  pub rowing-next : j < length row → {r : Page} → Appended q r (bytes2 (get_or row j 0)) → Rowing row p r (j + 1)
  rowing-next l a = record { wrote = appended_as (appended-behind h.wrote a) text }
    where
      text : successors_bytes (take j row) ++ bytes2 (get_or row j 0) ≡ successors_bytes (take (j + 1) row)
      text = rw (add-one j, take-suc row j 0 l) (sym (row_last (take j row) (get_or row j 0)))
