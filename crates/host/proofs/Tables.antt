-- From a table of a call's own to the host's: filled up with zeros to the host's entries it is what a call with all of them would leave.
use Prim.Native.Nat.{ℕ, zero, suc, ◌+◌, ◌-◌, ◌≤◌}
use mathlib.Core.Path.{◌≡◌, refl, ap, ◌∙◌}
use mathlib.Core.Logic.{◌⊎◌, inl, inr}
use mathlib.Core.List.{List, append_assoc}
use native.Mathlib.Omega.{arith}
use borrow.Author.Tests.{ne_eqb}
use lib.ListN.{length, replicate, length-append, length-replicate, replicate-append-replicate}
use Rattle.model.specs.Problem.{states}
use Rattle.model.specs.Format.{offsets_from}
use Rattle.model.specs.Read.{problem_of}
use Rattle.model.specs.Report.{on_refusal, index_table, refused_table, table_given}
use Rattle.layout.proofs.Index.{offsets-count}
use Rattle.host.specs.Host.{entries, as_bytes, host_table_given}
use Rattle.host.specs.Served.{filled_up}

-- filled up with zeros to m entries, and then to n
pub filled_more : (xs : List ℕ) (m n : ℕ) → length xs ≤ m → m ≤ n → filled_up (filled_up xs m) n ≡ filled_up xs n
filled_more xs m n fits le =
    let long : length (filled_up xs m) ≡ m = length-append xs (replicate (m - length xs) 0) ∙ rw length-replicate (omega arith) in
    let z : m - length xs + (n - m) ≡ n - length xs = omega arith in
    rw long (append_assoc xs (replicate (m - length xs) 0) (replicate (n - m) 0) ∙ rw (replicate-append-replicate, z))

-- what a call that was not refused for want of room leaves in an index table of its own
table_more : (k : ℕ) (s index : List ℕ) (n : ℕ) → (k ≡ 0) ⊎ (2 ≤ k) → (k ≡ 0 → states (problem_of s) ≤ length index) → length index ≤ n →
    filled_up (table_given k s index) n ≡ table_given k s (replicate n 0)
unfolding on_refusal index_table refused_table
table_more zero s index n ok few le =
    let count = offsets-count 8 (problem_of s).nodes in
    let same = filled_more (offsets_from 8 (problem_of s).nodes) (length index) n (omega (arith, count, few refl)) le in
    rw length-replicate (rw count at same)
table_more (suc zero) s index n (inl z) few le = absurd (omega (arith, z))
table_more (suc zero) s index n (inr l) few le = absurd (omega (arith, l))
table_more (suc (suc k)) s index n ok few le =
    let z : length index + (n - length index) ≡ n = omega arith in
    rw length-replicate (rw (length-replicate, replicate-append-replicate, z))

-- and in the host's, when that is written from it
pub table-given : (k : ℕ) (s index t : List ℕ) → (k ≡ 0) ⊎ (2 ≤ k) → (k ≡ 0 → states (problem_of s) ≤ length index) →
    length index ≤ entries t → {t' : List ℕ} → t' ≡ as_bytes (filled_up (table_given k s index) (entries t)) t → t' ≡ host_table_given k s t
unfolding host_table_given
table-given k s index t ok few le e =
    e ∙ ap (λ (xs : List ℕ). as_bytes xs t) (table_more k s index (entries t) ok few le) ∙ rw (ne_eqb k 1 (λ z. not-one z ok))
  where
    not-one : k ≡ 1 → (k ≡ 0) ⊎ (2 ≤ k) → ⊥
    not-one z (inl o) = omega (arith, z, o)
    not-one z (inr l) = omega (arith, z, l)
