-- A text written into a buffer, piece behind piece.
use Prim.Native.Nat.{ℕ, ◌+◌, ◌<◌, ◌≤◌}
use mathlib.Core.Path.{◌≡◌, refl, ap, sym, ◌∙◌}
use mathlib.Core.List.{List, [], ◌∷◌, ◌++◌}
use native.Mathlib.Omega.{arith}
use native.Mathlib.Nat.{add-zero}
use native.Mathlib.Numerals.{add-one}
use lib.ListN.{length, get_or, take, drop, set, length-append}
use lib.Seq.{length-take-le, take_all, take-suc}
use Rattle.layout.specs.Placed.{placed, Wrote}
use Rattle.layout.proofs.Placed.{placed-none, placed-byte, placed-length, placed-then, placed-ahead}

-- nothing, and one byte
pub wrote_none : (s : List ℕ) (at : ℕ) → at ≤ length s → Wrote s s at at []
wrote_none s at h = record { room = omega arith; bytes = placed-none s at; behind = sym (add-zero at) }

pub wrote-byte : (s : List ℕ) (at b : ℕ) → at < length s → Wrote s (set s at b) at (at + 1) (b ∷ [])
wrote-byte s at b h = record { room = omega arith; bytes = placed-byte s at b h; behind = refl }

-- a text keeps the buffer's length, and one can be written behind another, or before it
module _ {s s' : List ℕ} {at next : ℕ} {x : List ℕ} (w : Wrote s s' at next x) where
  pub wrote-length : length s' ≡ length s
  wrote-length = ap length w.bytes ∙ placed-length s at x w.room

  pub wrote-behind : {s'' : List ℕ} {end : ℕ} {y : List ℕ} → Wrote s' s'' next end y → Wrote s s'' at end (x ++ y)
  wrote-behind {s''} {end} {y} v = record {
    room = rw length-append (omega (arith, v.room, w.behind, wrote-length));
    bytes = placed-then s s' s'' x y at w.room w.bytes (v.bytes ∙ ap (λ (n : ℕ). placed n y s') w.behind);
    behind = rw length-append (omega (arith, v.behind, w.behind));
  }

  pub wrote-ahead : {s'' : List ℕ} {from : ℕ} {y : List ℕ} → Wrote s' s'' from at y → Wrote s s'' from next (y ++ x)
  wrote-ahead {s''} {from} {y} v = record {
    room = rw length-append (omega (arith, v.behind, w.room));
    bytes = v.bytes ∙ ap (placed from y) (rw (← v.behind) w.bytes) ∙ placed-ahead s y x from (omega (arith, v.behind, w.room));
    behind = rw length-append (omega (arith, v.behind, w.behind));
  }

  -- the same text, said otherwise
  pub wrote_as : {y : List ℕ} → x ≡ y → Wrote s s' at next y
  wrote_as e = rw (← e) w

-- a text written at the front of a buffer
pub wrote-front : {s s' : List ℕ} {next : ℕ} {x : List ℕ} → Wrote s s' 0 next x → s' ≡ x ++ drop (length x) s
wrote-front {s} {s'} {next} {x} w =
    let z : 0 + length x ≡ length x = omega arith in w.bytes ∙ ap (λ (n : ℕ). x ++ drop n s) z

-- A word, byte after byte.
module _ (s s' w : List ℕ) (at next i : ℕ) (h : Wrote s s' at next (take i w)) (lt : i < length w) where
  pub next-room : at + length w ≤ length s → next < length s'
  next-room room = omega (arith, h.behind, wrote-length h, length-take-le i w (omega arith))

  pub next-byte : (s'' : List ℕ) (end : ℕ) → Wrote s' s'' next end (get_or w i 0 ∷ []) → Wrote s s'' at end (take (i + 1) w)
  next-byte s'' end v = rw (add-one, take-suc w i 0 lt) (wrote-behind h v)

pub whole_word : (s s' w : List ℕ) (at next i : ℕ) → Wrote s s' at next (take i w) → length w ≤ i → Wrote s s' at next w
whole_word s s' w at next i h le = rw (take_all i w le) at h
