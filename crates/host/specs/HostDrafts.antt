-- What the host's two functions on drafts, `ldfs_rearrange` and `ldfs_restore`, return and leave. Table and list pass as bytes, four an
-- entry, least significant first.
use Rattle.std.specs.Prelude.{ℕ, zero, suc, ◌-◌, ◌≡◌, List, [], ◌∷◌, ◌++◌, length, drop, replicate}
use Rattle.model.specs.Problem.{Problem, states}
use Rattle.model.specs.Read.{problem_of}
use Rattle.model.specs.Report.{on_refusal}
use Rattle.order.specs.Order.{order}
use Rattle.order.specs.Asking.{rearrange_refusal, restore_refusal, rearranged_bytes, restored_bytes, output_given}
use Rattle.host.specs.Host.{entries, as_bytes, host_table_given}
use Rattle.host.specs.HostCalls.{read_le32}

-- the numbers in the first n entries of a slice, and in all its whole entries
unfoldable pub numbers_in : ℕ → List ℕ → List ℕ
numbers_in zero bytes = []
numbers_in (suc n) bytes = read_le32 bytes 0 ∷ numbers_in n (drop 4 bytes)

abbrev pub host_numbers : List ℕ → List ℕ
host_numbers bytes = numbers_in (entries bytes) bytes

-- the list of old numbers in n entries: 0 past the stages
abbrev pub order_list : Problem → ℕ → List ℕ
order_list p n = order p ++ replicate (n - states p) 0

-- the number returned, given that of the question that refuses the call, 0 for none: a refusal's own, and else what the call did
abbrev pub number_given : ℕ → ℕ → ℕ
number_given n did = on_refusal n (λ _. did) (λ k. k)

-- `ldfs_rearrange` with the draft s, the table t, the output o and the list l: the refusal, the number returned (105: rearranged), and the
-- bytes of table, output and list after
abbrev pub draft_refusal : List ℕ → List ℕ → List ℕ → List ℕ → ℕ
draft_refusal s t o l = rearrange_refusal s (entries t) (length o) (entries l)

unfoldable pub host_rearrange : List ℕ → List ℕ → List ℕ → List ℕ → ℕ
host_rearrange s t o l = number_given (draft_refusal s t o l) 105

unfoldable pub host_rearrange_table : List ℕ → List ℕ → List ℕ → List ℕ → List ℕ
host_rearrange_table s t o l = host_table_given (draft_refusal s t o l) s t

unfoldable pub host_rearrange_output : List ℕ → List ℕ → List ℕ → List ℕ → List ℕ
host_rearrange_output s t o l = output_given (draft_refusal s t o l) (rearranged_bytes s) o

unfoldable pub host_rearrange_list : List ℕ → List ℕ → List ℕ → List ℕ → List ℕ
host_rearrange_list s t o l = on_refusal (draft_refusal s t o l) (λ _. as_bytes (order_list (problem_of s) (entries l)) l) (λ _. l)

-- `ldfs_restore` with the sheet s, the table t, the list l and the output o: the refusal, the number returned (106: restored), and the
-- bytes of table and output after
abbrev pub back_refusal : List ℕ → List ℕ → List ℕ → List ℕ → ℕ
back_refusal s t l o = restore_refusal s (entries t) (host_numbers l) (length o)

unfoldable pub host_restore : List ℕ → List ℕ → List ℕ → List ℕ → ℕ
host_restore s t l o = number_given (back_refusal s t l o) 106

unfoldable pub host_restore_table : List ℕ → List ℕ → List ℕ → List ℕ → List ℕ
host_restore_table s t l o = host_table_given (back_refusal s t l o) s t

unfoldable pub host_restore_output : List ℕ → List ℕ → List ℕ → List ℕ → List ℕ
host_restore_output s t l o = output_given (back_refusal s t l o) (restored_bytes s (host_numbers l)) o

-- The two contracts, clause by clause. The first: called with s, t, o and l, `ldfs_rearrange` returned k, and left t', o' and l'.
abbrev pub HostedRearrange : List ℕ → List ℕ → List ℕ → List ℕ → ℕ → List ℕ → List ℕ → List ℕ → Type 0
HostedRearrange s t o l k t' o' l' =
    (k ≡ host_rearrange s t o l)
    × ((t' ≡ host_rearrange_table s t o l) × ((o' ≡ host_rearrange_output s t o l) × (l' ≡ host_rearrange_list s t o l)))

-- The second: called with s, t, l and o, `ldfs_restore` returned k, and left t' and o'.
abbrev pub HostedRestore : List ℕ → List ℕ → List ℕ → List ℕ → ℕ → List ℕ → List ℕ → Type 0
HostedRestore s t l o k t' o' =
    (k ≡ host_restore s t l o) × ((t' ≡ host_restore_table s t l o) × (o' ≡ host_restore_output s t l o))
