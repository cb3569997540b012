-- What a host has of its calls on a draft, by the numbers returned and the bytes of its slices.
use Rattle.std.specs.Prelude.{ℕ, ◌*◌, ◌<◌, ◌≤◌, ◌≡◌, List, ◌++◌, length, take, drop}
use Rattle.model.specs.Limits.{max_states}
use Rattle.model.specs.Problem.{states}
use Rattle.model.specs.Format.{write}
use Rattle.model.specs.Read.{problem_of, cells_of}
use Rattle.model.specs.Optimal.{optimal}
use Rattle.model.specs.Calls.{Call, left}
use Rattle.model.specs.Demands.{Accepted}
use Rattle.order.specs.Order.{order, inverse}
use Rattle.order.specs.Moved.{moved_cells}
use Rattle.order.specs.Claims.{Rearranges, Restores}
use Rattle.order.specs.Asking.{restored_bytes}
use Rattle.host.specs.Host.{entries}
use Rattle.host.specs.HostCalls.{read_le32, HostedAll}
use Rattle.host.specs.HostDrafts.{host_numbers, order_list, HostedRestore}

-- the sheet that stands in an output: as many bytes as the draft s has
abbrev pub sheet_in : List ℕ → List ℕ → List ℕ
sheet_in s o = take (length s) o

-- `ldfs_restore` on the sheet b with the list l, and any table and output that are long enough, returns 106, and the output begins with the
-- bytes d and is as it was behind them.
abbrev pub RestoresTo : List ℕ → List ℕ → List ℕ → Type 0
RestoresTo b l d =
    (t o : List ℕ) (k : ℕ) (t' o' : List ℕ) → HostedRestore b t l o k t' o' → max_states ≤ entries t → length b ≤ length o →
    (k ≡ 106) × (o' ≡ d ++ drop (length d) o)

-- What a call of `ldfs_rearrange` on the bytes s has done that returned 105, was lent the output o and left o' and the list l'.
pub record HostRearranges (s o o' l' : List ℕ) : Type 0 where
  -- the output begins with an accepted sheet, as long as the draft, and is as it was behind it
  pub sheet : Accepted (sheet_in s o')
  pub behind : drop (length s) o' ≡ drop (length s) o
  -- the list has the old number of each stage, and then zeros
  pub old : host_numbers l' ≡ order_list (problem_of s) (entries l')
  -- the least cost of each stage is that of the stage whose number is in its entry
  pub least : (i : ℕ) → i < states (problem_of s) → optimal (problem_of (sheet_in s o')) i ≡ optimal (problem_of s) (read_le32 l' (4 * i))
  -- `ldfs_restore` gives back the very bytes; and after any calls of `ldfs_solve` on the sheet the draft's problem, with the cells that
  -- they left at the old numbers
  pub back : RestoresTo (sheet_in s o') l' s
  pub worked_back : (calls : List Call) → HostedAll (sheet_in s o') calls →
      let b = left (sheet_in s o') calls in
      RestoresTo b l' (write (problem_of s) (moved_cells (inverse (order (problem_of s))) (cells_of b)))
  -- all that is promised of a draft that is not refused
  pub promised : Rearranges s

-- What a call of `ldfs_restore` on the bytes s with the list l has done that returned 106, was lent the output o and left o': the output
-- begins with the draft that the definitions give, and is as it was behind it; and what is promised of that draft.
pub record HostRestores (s l o o' : List ℕ) : Type 0 where
  pub draft : sheet_in s o' ≡ restored_bytes s (host_numbers l)
  pub behind : drop (length s) o' ≡ drop (length s) o
  pub promised : Restores s (host_numbers l)
