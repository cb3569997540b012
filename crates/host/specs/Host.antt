-- S9: what the host's function returns and leaves. The table passes as bytes, four an entry, least significant first (S9.2).
use Rattle.std.specs.Prelude.{ℕ, ◌*◌, ◌/◌, ◌%◌, Bool, List, [], ◌∷◌, ◌++◌, eqb, leb, length, drop, replicate}
use Rattle.model.specs.Tests.{fork}
use Rattle.model.specs.Limits.{max_states}
use Rattle.model.specs.Report.{number, table_given, answer_to, bytes_after, table_after}

-- numbers, least significant byte first
abbrev pub le32 : ℕ → List ℕ
le32 x = x % 256 ∷ x / 256 % 256 ∷ x / 65536 % 256 ∷ x / 16777216 % 256 ∷ []

abbrev pub le64 : ℕ → List ℕ
le64 x = le32 (x % 4294967296) ++ le32 (x / 4294967296)

-- the bytes of a table's entries
unfoldable pub entry_bytes : List ℕ → List ℕ
entry_bytes [] = []
entry_bytes (x ∷ xs) = le32 x ++ entry_bytes xs

-- the number of whole entries that a table's bytes hold
abbrev pub entries : List ℕ → ℕ
entries t = length t / 4

-- a slice whose entries become some numbers: four bytes each, with up to three bytes left over at the end untouched
abbrev pub as_bytes : List ℕ → List ℕ → List ℕ
as_bytes xs bytes = entry_bytes xs ++ drop (4 * entries bytes) bytes

-- the table's bytes after a call on the sheet s, given the number of the question that refuses it, 0 for none: unaltered for want of room
unfoldable pub host_table_given : ℕ → List ℕ → List ℕ → List ℕ
host_table_given n s t = fork (eqb n 1) (λ _. t) (λ _. as_bytes (table_given n s (replicate (entries t) 0)) t)

-- S9.5: price, passes and raises take this many bytes of the result. Has it room for them?
abbrev pub result_bytes : ℕ
result_bytes = 24

abbrev pub room : List ℕ → Bool
room r = leb result_bytes (length r)

-- the number returned: a refusal's own, 1 too where the result is too short, or 100 settled, 101 over, 102 stopped, 103 none
unfoldable pub host_number : List ℕ → List ℕ → ℕ → List ℕ → ℕ
host_number s t budget r = fork (room r) (λ _. number (answer_to s (entries t) budget).outcome) (λ _. 1)

-- the sheet's bytes after
unfoldable pub host_sheet : List ℕ → List ℕ → ℕ → List ℕ → List ℕ
host_sheet s t budget r = fork (room r) (λ _. bytes_after s (entries t) budget) (λ _. s)

-- the table's bytes after: unaltered where it is too short
unfoldable pub host_table : List ℕ → List ℕ → ℕ → List ℕ → List ℕ
host_table s t budget r =
    fork (room r)
    (λ _. fork (leb max_states (entries t))
    (λ _. as_bytes (table_after s (replicate (entries t) 0) budget) t)
    (λ _. t))
    (λ _. t)

-- the result's bytes after: price, passes and raises in the first 24, the rest untouched
unfoldable pub host_result : List ℕ → List ℕ → ℕ → List ℕ → List ℕ
host_result s t budget r =
    fork (room r)
    (λ _. (le64 (answer_to s (entries t) budget).price ++
    (le64 (answer_to s (entries t) budget).passes ++ le64 (answer_to s (entries t) budget).raises)) ++ drop result_bytes r)
    (λ _. r)
