-- Numbers written as bytes, one after the other, and a table's entries as bytes.
use Prim.Native.Nat.{ℕ, zero, suc, ◌+◌, ◌-◌, ◌*◌, ◌/◌, ◌%◌, ◌<◌, ◌≤◌}
use mathlib.Core.Path.{◌≡◌, refl, sym, ◌∙◌}
use mathlib.Core.List.{List, [], ◌∷◌, ◌++◌, append_assoc}
use native.Mathlib.Omega.{arith}
use native.Mathlib.Numerals.{add-one}
use borrow.Rule.Slice.PartMut.{put_mid}
use lib.ListN.{length, get_or, take, drop, replicate}
use lib.Seq.{take_all, take-suc, drop-drop}
use Rattle.std.specs.Int.{w64, to_le_bytes}
use Rattle.std.proofs.lemmas.List.{take_at, drop_at, length-take-le}
use Rattle.layout.specs.Placed.{placed}
use Rattle.host.specs.Host.{le32, le64, entry_bytes}
use Rattle.host.specs.Served.{filled_up}

-- three numbers of eight bytes from the start
eight : (x : ℕ) → to_le_bytes w64 x ≡ le64 x
eight x =
    let a : x % 256 ≡ x % 4294967296 % 256 = omega arith in
    let b : x / 256 % 256 ≡ x % 4294967296 / 256 % 256 = omega arith in
    let c : x / 65536 % 256 ≡ x % 4294967296 / 65536 % 256 = omega arith in
    let d : x / 16777216 % 256 ≡ x % 4294967296 / 16777216 % 256 = omega arith in
    let e : x / 1099511627776 % 256 ≡ x / 4294967296 / 256 % 256 = omega arith in
    let f : x / 281474976710656 % 256 ≡ x / 4294967296 / 65536 % 256 = omega arith in
    let g : x / 72057594037927936 % 256 ≡ x / 4294967296 / 16777216 % 256 = omega arith in
    cc

pub three-put : (s a b c : List ℕ) (x y z : ℕ) → a ≡ to_le_bytes w64 x → b ≡ to_le_bytes w64 y → c ≡ to_le_bytes w64 z →
    put_mid 16 8 (put_mid 8 8 (a ++ drop 8 s) b) c ≡ placed 0 (le64 x ++ (le64 y ++ le64 z)) s
three-put s a b c x y z p q r =
    rw (p ∙ eight x, q ∙ eight y, r ∙ eight z, drop-drop 8 8 s, drop-drop 8 16 s)

-- An entry of a table that is filled up with zeros.
pub filled_at : (t : List ℕ) (k i : ℕ) → get_or (t ++ replicate k 0) i 0 ≡ get_or t i 0
filled_at [] zero i = refl
filled_at [] (suc k) zero = refl
filled_at [] (suc k) (suc i) = filled_at [] k i
filled_at (x ∷ xs) k zero = refl
filled_at (x ∷ xs) k (suc i) = filled_at xs k i

entries-joined : (xs ys : List ℕ) → entry_bytes (xs ++ ys) ≡ entry_bytes xs ++ entry_bytes ys
unfolding entry_bytes
entries-joined [] ys = refl
entries-joined (x ∷ xs) ys = rw (entries-joined xs ys)

pub entries-length : (xs : List ℕ) → length (entry_bytes xs) ≡ 4 * length xs
unfolding entry_bytes
entries-length [] = refl
entries-length (x ∷ xs) = omega (arith, entries-length xs)

entries-zero : (n : ℕ) → entry_bytes (replicate n 0) ≡ replicate (4 * n) 0
unfolding entry_bytes
entries-zero zero = refl
entries-zero (suc n) = let e : 4 * suc n ≡ suc (suc (suc (suc (4 * n)))) = omega arith in rw (e, entries-zero n)

-- a part of a slice written over, right behind a front
put-behind : (front rest s : List ℕ) (a k : ℕ) (w : List ℕ) → s ≡ front ++ rest → length front ≡ a →
    put_mid a k s w ≡ front ++ (w ++ drop k rest)
put-behind front rest s a k w e long = rw (e, take_at front rest a long, drop_at front rest a long)

-- a table's entries written from the start: none, one more, and zeros behind them all
abbrev pub Entered : List ℕ → List ℕ → List ℕ → ℕ → Type 0
Entered bytes₀ table bytes i = bytes ≡ entry_bytes (take i table) ++ drop (4 * i) bytes₀

module _ (bytes₀ table : List ℕ) where
  pub entered-none : Entered bytes₀ table bytes₀ 0
  unfolding entry_bytes
  entered-none = refl

  front-long : (i : ℕ) → i ≤ length table → length (entry_bytes (take i table)) ≡ 4 * i
  front-long i le = entries-length (take i table) ∙ rw (length-take-le i table le)

  module _ (bytes : List ℕ) (i : ℕ) (h : Entered bytes₀ table bytes i) (w : List ℕ) where
    pub entered-more : i < length table → w ≡ le32 (get_or table i 0) →
        Entered bytes₀ table (put_mid (4 * i) (4 * i + 4 - 4 * i) bytes w) (i + 1)
    unfolding entry_bytes
    entered-more lt e =
        let four : 4 * i + 4 - 4 * i ≡ 4 = omega arith in
        let next : 4 * (i + 1) ≡ 4 * i + 4 = omega arith in
        put-behind _ _ bytes (4 * i) _ w h (front-long i (omega arith)) ∙
        rw (four, next, add-one, take-suc table i 0 lt, entries-joined, drop-drop 4 (4 * i) bytes₀, e)
        (sym (append_assoc (entry_bytes (take i table)) (le32 (get_or table i 0)) (drop (4 * i + 4) bytes₀)))

    pub entered-all : (n k : ℕ) → length table ≤ i → i ≤ length table → w ≡ replicate k 0 → k ≡ 4 * (n - length table) → length table ≤ n →
        put_mid (4 * length table) (4 * n - 4 * length table) bytes w ≡ entry_bytes (filled_up table n) ++ drop (4 * n) bytes₀
    entered-all n k ge le e long fits =
        let end : i ≡ length table = omega arith in
        let left : 4 * n - 4 * length table ≡ 4 * (n - length table) = omega arith in
        let all : 4 * length table + 4 * (n - length table) ≡ 4 * n = omega arith in
        let whole : take (length table) table ≡ table = take_all (length table) table (omega arith) in
        put-behind _ _ bytes (4 * length table) _ w (rw end at h) (front-long (length table) (omega arith)) ∙
        rw (e, long, left, whole, drop-drop (4 * (n - length table)) (4 * length table) bytes₀, all, entries-joined, entries-zero)
        (sym (append_assoc (entry_bytes table) (replicate (4 * (n - length table)) 0) (drop (4 * n) bytes₀)))
