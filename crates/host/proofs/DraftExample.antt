-- Not vacuous: sheet K, which becomes sheet A, and back, through the two calls; and their refusals (S11.52, S11.54, S11.61, S11.63).
use Prim.Native.Nat.{ℕ, ◌+◌, ◌-◌, ◌*◌}
use mathlib.Core.Path.{◌≡◌, refl}
use mathlib.Core.List.{List, [], ◌∷◌, ◌++◌}
use lib.ListN.{take, drop, replicate}
use Rattle.model.proofs.Computing.{computing}
use Rattle.model.specs.Limits.{max_states}
use Rattle.model.specs.Rows.{sheet_a}
use Rattle.theory.proofs.Example.{tested}
use Rattle.order.proofs.RowsHold.{rearranging}
use Rattle.order.specs.Rows.{sheet_k}
use Rattle.host.specs.Host.{entry_bytes, host_table_given}
use Rattle.host.specs.HostDrafts.{numbers_in, host_rearrange, host_rearrange_table, host_rearrange_output, host_rearrange_list}
use Rattle.host.specs.HostDrafts.{host_restore, host_restore_table, host_restore_output}
use Rattle.host.specs.DraftCalls.{HostRearranges}
use Rattle.host.proofs.DraftPromises.{host-rearranges}

-- the fewest bytes of a table and of a list
abbrev enough : ℕ
enough = 4 * max_states

-- slices of so many bytes
abbrev sevens : ℕ → List ℕ
sevens n = replicate n 7

abbrev list_k : List ℕ
list_k = 2 ∷ 0 ∷ 0 ∷ 0 ∷ 3 ∷ 0 ∷ 0 ∷ 0 ∷ 0 ∷ 0 ∷ 0 ∷ 0 ∷ 1 ∷ 0 ∷ 0 ∷ 0 ∷ []

-- rearranged: what is returned, the output, and the list's first entries and last bytes
pub rearranged-K : host_rearrange sheet_k (sevens (enough + 3)) (sevens 83) (sevens (enough + 6)) ≡ 105
unfolding computing rearranging host_rearrange
rearranged-K = refl

output-K : host_rearrange_output sheet_k (sevens (enough + 3)) (sevens 83) (sevens (enough + 6)) ≡ sheet_a ++ (7 ∷ 7 ∷ [])
unfolding computing rearranging host_rearrange_output
output-K = refl

list-K : take 20 (host_rearrange_list sheet_k (sevens (enough + 3)) (sevens 83) (sevens (enough + 6))) ≡ list_k ++ (0 ∷ 0 ∷ 0 ∷ 0 ∷ [])
unfolding computing rearranging host_rearrange_list entry_bytes
list-K = refl

list-end-K : drop enough (host_rearrange_list sheet_k (sevens (enough + 3)) (sevens 83) (sevens (enough + 6))) ≡
    0 ∷ 0 ∷ 0 ∷ 0 ∷ 7 ∷ 7 ∷ []
unfolding computing rearranging host_rearrange_list entry_bytes
list-end-K = refl

-- what a host has of it
pub promise-K :
    HostRearranges sheet_k (sevens 83) (host_rearrange_output sheet_k (sevens (enough + 3)) (sevens 83) (sevens (enough + 6)))
    (host_rearrange_list sheet_k (sevens (enough + 3)) (sevens 83) (sevens (enough + 6)))
unfolding computing
promise-K =
    host-rearranges sheet_k (tested sheet_k refl) (sevens (enough + 3)) (sevens 83) (sevens (enough + 6)) (refl, (refl, (refl, refl)))
    rearranged-K

-- the table, of the draft's offsets, and all zero after a refusal but 1; its last three bytes stay
table-K : take 20 (host_rearrange_table sheet_k (sevens (enough + 3)) (sevens 83) (sevens enough)) ≡
    8 ∷ 0 ∷ 0 ∷ 0 ∷ 20 ∷ 0 ∷ 0 ∷ 0 ∷ 32 ∷ 0 ∷ 0 ∷ 0 ∷ 61 ∷ 0 ∷ 0 ∷ 0 ∷ 0 ∷ 0 ∷ 0 ∷ 0 ∷ []
unfolding computing rearranging host_rearrange_table host_table_given entry_bytes
table-K = refl

tables-K : take 1 (host_rearrange_table sheet_a (sevens (enough + 3)) (sevens 81) (sevens enough)) ++
    drop enough (host_rearrange_table sheet_a (sevens (enough + 3)) (sevens 81) (sevens enough)) ++
    take 1 (host_rearrange_table sheet_k (sevens (enough + 3)) (sevens 80) (sevens enough)) ++
    take 1 (host_restore_table sheet_a (sevens (enough + 3)) (sevens enough) (sevens 81)) ++
    drop enough (host_restore_table sheet_a (sevens (enough + 3)) (sevens enough) (sevens 81)) ++
    take 1 (host_restore_table sheet_a (sevens (enough + 3)) (sevens enough) (sevens 80)) ≡
    0 ∷ 7 ∷ 7 ∷ 7 ∷ 7 ∷ 0 ∷ 7 ∷ 7 ∷ 7 ∷ 7 ∷ []
unfolding computing rearranging host_rearrange_table host_restore_table host_table_given entry_bytes numbers_in
tables-K = refl

-- restored, with a list whose entries past the stages are not 0
restored-K : host_restore sheet_a (sevens enough) (list_k ++ sevens (enough - 16)) (sevens 83) ≡ 106
unfolding computing rearranging host_restore numbers_in
restored-K = refl

draft-K : host_restore_output sheet_a (sevens enough) (list_k ++ sevens (enough - 16)) (sevens 83) ≡ sheet_k ++ (7 ∷ 7 ∷ [])
unfolding computing rearranging host_restore_output numbers_in
draft-K = refl

-- refused 1: a table, an output, a list one byte too short; 3: each is given what is the other's; 11: the list lacks a number
short-K : host_rearrange sheet_k (sevens (enough - 1)) (sevens 81) (sevens enough) ∷
    host_rearrange sheet_k (sevens enough) (sevens 80) (sevens enough) ∷
    host_rearrange sheet_k (sevens enough) (sevens 81) (sevens (enough - 1)) ∷
    host_rearrange sheet_a (sevens enough) (sevens 81) (sevens enough) ∷
    host_restore sheet_a (sevens (enough - 1)) (list_k ++ sevens (enough - 16)) (sevens 81) ∷
    host_restore sheet_a (sevens enough) (list_k ++ sevens (enough - 16)) (sevens 80) ∷
    host_restore sheet_a (sevens enough) (list_k ++ sevens (enough - 17)) (sevens 81) ∷
    host_restore sheet_k (sevens enough) (list_k ++ sevens (enough - 16)) (sevens 81) ∷
    host_restore sheet_a (sevens enough) (sevens enough) (sevens 81) ∷ [] ≡ 1 ∷ 1 ∷ 1 ∷ 3 ∷ 1 ∷ 1 ∷ 1 ∷ 3 ∷ 11 ∷ []
unfolding computing rearranging host_rearrange host_restore numbers_in
short-K = refl
