-- Numbers read from the entries of a slice, and read back from those that were written.
use Prim.Native.Nat.{ℕ, zero, suc, ◌+◌, ◌*◌, ◌<◌, ◌≤◌}
use mathlib.Core.Path.{◌≡◌, refl, sym, ap, ◌∙◌}
use mathlib.Core.List.{List, [], ◌∷◌, ◌++◌}
use native.Mathlib.Omega.{arith}
use native.Mathlib.Numerals.{add-one}
use lib.ListN.{length, get_or, set, take, drop, length-append, length-drop}
use lib.Seq.{get_or-drop, take-suc-set}
use Rattle.std.specs.Int.{w32, from_le_bytes}
use Rattle.std.specs.Simd.{first_chunks}
use Rattle.host.specs.Host.{entry_bytes, entries, as_bytes}
use Rattle.host.specs.HostCalls.{read_le32}
use Rattle.host.specs.HostDrafts.{numbers_in, host_numbers}
use Rattle.host.proofs.Bytes.{entries-length}
use Rattle.host.proofs.Promises.{back32}

-- as many as are read
pub numbers-length : (n : ℕ) (bytes : List ℕ) → length (numbers_in n bytes) ≡ n
unfolding numbers_in
numbers-length zero bytes = refl
numbers-length (suc n) bytes = ap suc (numbers-length n (drop 4 bytes))

-- the first of them
pub numbers-take : (k n : ℕ) (bytes : List ℕ) → k ≤ n → take k (numbers_in n bytes) ≡ numbers_in k bytes
unfolding numbers_in
numbers-take zero n bytes le = refl
numbers-take (suc k) zero bytes le = absurd (omega arith)
numbers-take (suc k) (suc n) bytes le = ap (◌∷◌ (read_le32 bytes 0)) (numbers-take k n (drop 4 bytes) (omega arith))

-- one more
read-drop : (k : ℕ) (bytes : List ℕ) (o : ℕ) → read_le32 (drop k bytes) o ≡ read_le32 bytes (k + o)
read-drop k bytes o =
    let a : k + (o + 1) ≡ k + o + 1 = omega arith in
    let b : k + (o + 2) ≡ k + o + 2 = omega arith in
    let c : k + (o + 3) ≡ k + o + 3 = omega arith in
    rw (get_or-drop, get_or-drop, get_or-drop, get_or-drop, a, b, c)

numbers-suc : (n : ℕ) (bytes : List ℕ) → numbers_in (suc n) bytes ≡ numbers_in n bytes ++ (read_le32 bytes (4 * n) ∷ [])
unfolding numbers_in
numbers-suc zero bytes = refl
numbers-suc (suc n) bytes =
    let e : 4 + 4 * n ≡ 4 * suc n = omega arith in
    ap (◌∷◌ (read_le32 bytes 0)) (numbers-suc n (drop 4 bytes) ∙ rw (read-drop 4 bytes (4 * n), e))

-- each of them
pub numbers-at : (n : ℕ) (bytes : List ℕ) (i : ℕ) → i < n → get_or (numbers_in n bytes) i 0 ≡ read_le32 bytes (4 * i)
unfolding numbers_in
numbers-at zero bytes i lt = absurd (omega arith)
numbers-at (suc n) bytes zero lt = refl
numbers-at (suc n) bytes (suc i) lt =
    let e : 4 + 4 * i ≡ 4 * suc i = omega arith in
    numbers-at n (drop 4 bytes) i (omega arith) ∙ rw (read-drop 4 bytes (4 * i), e)

-- Numbers of 32 bits that were written are read.
numbers-back : (xs rest : List ℕ) → ((i : ℕ) → get_or xs i 0 < 4294967296) → numbers_in (length xs) (entry_bytes xs ++ rest) ≡ xs
unfolding numbers_in entry_bytes
numbers-back [] rest small = refl
numbers-back (x ∷ xs) rest small = rw (numbers-back xs rest (λ i. small (suc i)), back32 x (small 0))

pub as-entries : (xs l : List ℕ) → length xs ≡ entries l → entries (as_bytes xs l) ≡ entries l
as-entries xs l same =
    omega (arith, length-append (entry_bytes xs) (drop (4 * entries l) l), entries-length xs, length-drop (4 * entries l) l, same)

pub as-numbers : (xs l : List ℕ) → length xs ≡ entries l → ((i : ℕ) → get_or xs i 0 < 4294967296) → host_numbers (as_bytes xs l) ≡ xs
as-numbers xs l same small =
    ap (λ (n : ℕ). numbers_in n (as_bytes xs l)) (as-entries xs l same ∙ sym same) ∙ numbers-back xs (drop (4 * entries l) l) small

-- the entries as arrays of four bytes: the number in each of them
entry-read : (k : ℕ) (bytes : List ℕ) (i : ℕ) → i < k → from_le_bytes w32 (get_or (first_chunks 4 k bytes) i []) ≡ read_le32 bytes (4 * i)
entry-read zero bytes i lt = absurd (omega arith)
entry-read (suc k) bytes zero lt = four-taken bytes
  where
    four-taken : (b : List ℕ) → from_le_bytes w32 (take 4 b) ≡ read_le32 b 0
    four-taken [] = refl
    four-taken (x ∷ []) = refl
    four-taken (x ∷ y ∷ []) = refl
    four-taken (x ∷ y ∷ z ∷ []) = refl
    four-taken (x ∷ y ∷ z ∷ w ∷ b) = refl
entry-read (suc k) bytes (suc i) lt =
    let e : 4 + 4 * i ≡ 4 * suc i = omega arith in
    entry-read k (drop 4 bytes) i (omega arith) ∙ rw (read-drop 4 bytes (4 * i), e)

-- the loop that reads them
abbrev pub Got : List ℕ → List ℕ → ℕ → Type 0
Got bytes numbers i = take i numbers ≡ numbers_in i bytes

pub got-none : (bytes numbers : List ℕ) → Got bytes numbers 0
unfolding numbers_in
got-none bytes numbers = refl

pub got-more : (bytes numbers : List ℕ) (i : ℕ) → Got bytes numbers i → i < length numbers → i < entries bytes →
    (arrays : List (List ℕ)) (x : ℕ) → arrays ≡ first_chunks 4 (entries bytes) bytes → x ≡ from_le_bytes w32 (get_or arrays i []) →
    Got bytes (set numbers i x) (i + 1)
got-more bytes numbers i h lt within arrays x are is =
    rw (add-one i, take-suc-set numbers i x lt, h, numbers-suc i bytes, is, are, entry-read (entries bytes) bytes i within)
