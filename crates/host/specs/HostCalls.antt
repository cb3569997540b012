-- Calls of `ldfs_solve` as the host sees them: by the number returned, the sheet's bytes and the result's bytes.
use Rattle.std.specs.Prelude.{ℕ, ◌+◌, ◌*◌, ◌≡◌, List, [], ◌∷◌, get_or}
use Rattle.model.specs.Tests.{fork}
use Rattle.model.specs.Calls.{Call}
use Rattle.host.specs.Host.{entries, room, host_number, host_sheet, host_table, host_result}

-- numbers at an offset, least significant byte first
abbrev pub read_le32 : List ℕ → ℕ → ℕ
read_le32 r o = get_or r o 0 + get_or r (o + 1) 0 * 256 + get_or r (o + 2) 0 * 65536 + get_or r (o + 3) 0 * 16777216

abbrev pub read_le64 : List ℕ → ℕ → ℕ
read_le64 r o = read_le32 r o + read_le32 r (o + 4) * 4294967296

-- a number that the result's bytes report: 0 where it has no room for them
unfoldable pub reported : List ℕ → ℕ → ℕ
reported r o = fork (room r) (λ _. read_le64 r o) (λ _. 0)

-- the call with a budget that returned the number k, and left the sheet s and the result r
abbrev pub host_call : ℕ → ℕ → List ℕ → List ℕ → Call
host_call budget k s r =
    record { budget = budget; number = k; price = reported r 0; passes = reported r 8; raises = reported r 16; bytes = s }

-- the table's entries that the questions are put with: a result with no room is refused as a table too short is
abbrev pub host_entries : List ℕ → List ℕ → ℕ
host_entries t r = fork (room r) (λ _. entries t) (λ _. 0)

-- `ldfs_solve`'s contract, clause by clause: called on the sheet s with the table t, a budget and the result r, it returned k, and
-- left s', t' and r'
abbrev pub Hosted : List ℕ → List ℕ → ℕ → List ℕ → ℕ → List ℕ → List ℕ → List ℕ → Type 0
Hosted s t budget r k s' t' r' =
    (k ≡ host_number s t budget r)
    × ((s' ≡ host_sheet s t budget r) × ((t' ≡ host_table s t budget r) × (r' ≡ host_result s t budget r)))

-- calls on the sheet s, each with any table bytes, budget and result, on the bytes that the one before it left
pub data HostedAll : List ℕ → List Call → Type 0 where
  none : {s : List ℕ} → HostedAll s []
  one : {s s' t' r' : List ℕ} {k : ℕ} {more : List Call} (t : List ℕ) (budget : ℕ) (r : List ℕ) →
      Hosted s t budget r k s' t' r' → HostedAll s' more → HostedAll s (host_call budget k s' r' ∷ more)
