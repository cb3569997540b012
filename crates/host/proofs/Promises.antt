-- The promises of `ldfs_solve`: the demands of its calls, by the number returned and the bytes of its slices. docs/HOST.md cites them.
use Prim.Native.Nat.{ℕ, ◌^◌, ◌/◌, ◌%◌, ◌<◌}
use mathlib.Core.Path.{◌≡◌, refl, sym, ap}
use mathlib.Core.Bool.{Bool, true, false}
use mathlib.Core.List.{List, ◌++◌}
use native.Mathlib.Omega.{arith}
use borrow.Author.Tests.{le-leb}
use lib.ListN.{length, drop}
use Rattle.model.specs.Problem.{solved}
use Rattle.model.specs.Format.{Bytes}
use Rattle.model.specs.Read.{problem_of, cells_of}
use Rattle.model.specs.Optimal.{gaps}
use Rattle.model.specs.Tests.{fork}
use Rattle.model.specs.Limits.{max_states, ceiling, many_raises}
use Rattle.model.specs.Report.{answer_to, bytes_after}
use Rattle.model.specs.Calls.{Call, call_on, Calls, none as no_call, left, raises_in, budgets_in}
use Rattle.model.specs.Demands.{Accepted, start_cell, Demand1, Demand2, Demand3}
use Rattle.layout.proofs.Bytes.{four}
use Rattle.theory.proofs.LimitLaws.{room-no}
use Rattle.theory.proofs.Called.{budget-given, call-refused, made-call}
use Rattle.theory.proofs.Promises.{raises-small, still-a-sheet}
use Rattle.theory.proofs.Demands.{demand1, demand2, demand3, all-raises-few, work-ends, price-small}
use Rattle.host.specs.Host.{le32, le64, entries, room, host_number, host_sheet, host_result}
use Rattle.host.specs.HostCalls.{read_le32, read_le64, reported, host_call, host_entries, Hosted, HostedAll, none, one}

-- a number's bytes, read, are the number
pub back32 : (x : ℕ) → x < 4294967296 → read_le32 (le32 x) 0 ≡ x
back32 x h = omega (arith, four x)

back64 : (x : ℕ) → x < 2 ^ 64 → read_le64 (le64 x) 0 ≡ x
back64 x h = omega (arith, back32 (x % 4294967296) (omega arith), back32 (x / 4294967296) (omega arith))

-- the result's bytes that report three numbers, and what they report
abbrev figures : ℕ → ℕ → ℕ → List ℕ → List ℕ
figures x y z rest = (le64 x ++ (le64 y ++ le64 z)) ++ rest

reported-back : (x y z : ℕ) (rest : List ℕ) → (x < 2 ^ 64) × (y < 2 ^ 64) × (z < 2 ^ 64) →
    let r = figures x y z rest in
    (reported r 0 ≡ x) × (reported r 8 ≡ y) × (reported r 16 ≡ z)
unfolding reported
reported-back x y z rest h =
    let room = le-leb 24 (length (figures x y z rest)) (omega arith) in
    (rw room (back64 x h.0), rw room (back64 y h.1), rw room (back64 z h.2))

-- a result with no room reports nothing
unreported : (r : List ℕ) (o : ℕ) → room r ≡ false → reported r o ≡ 0
unfolding reported
unreported r o e = rw e

-- the figures of an answer fit 64 bits
figures-fit : (s : List ℕ) → Bytes s → (entries budget : ℕ) →
    let a = answer_to s entries budget in
    (a.price < 2 ^ 64) × (a.passes < 2 ^ 64) × (a.raises < 2 ^ 64)
unfolding ceiling
figures-fit s bytes entries budget =
    let few = (demand2 s bytes entries budget).passes_few in let small = raises-small s bytes entries budget in
    (omega (arith, price-small s bytes entries budget), omega arith, omega arith)

-- One call, on the sheet s with the table t, a budget and the result r, that returned k and left s', t' and r'.
module _ (s t : List ℕ) (budget : ℕ) (r : List ℕ) {k : ℕ} {s' t' r' : List ℕ} (m : Hosted s t budget r k s' t' r')
    (bytes : Bytes s) where
  -- as the host sees it, it is what the questions and the procedure give
  pub hosted-call : host_call budget k s' r' ≡ call_on s (host_entries t r) budget
  unfolding host_number host_sheet host_result
  hosted-call = go (room r) refl
    where
      go : (b : Bool) → room r ≡ b → host_call budget k s' r' ≡ call_on s (fork b (λ _. entries t) (λ _. 0)) budget
      go true e =
          let a = answer_to s (entries t) budget in
          let back = reported-back a.price a.passes a.raises (drop 24 r) (figures-fit s bytes (entries t) budget) in
          rw (m.0, m.1.0, m.1.1.1, e, back.0, back.1, back.2, budget-given s (entries t) budget)
      go false e =
          rw (m.0, m.1.0, m.1.1.1, e, unreported r 0 e, unreported r 8 e, unreported r 16 e)
          (sym (call-refused s 0 budget 0 (room-no max_states s 0 budget (omega arith))))

  pub host-answers : Demand1 s (host_entries t r) budget (host_call budget k s' r')
  host-answers = rw hosted-call (demand1 s (host_entries t r) budget)

  pub host-prices : Demand2 s (host_entries t r) budget (host_call budget k s' r')
  host-prices = rw hosted-call (demand2 s bytes (host_entries t r) budget)

-- Any calls on an accepted sheet are calls in demand 3's sense.
pub host-calls : {s : List ℕ} {calls : List Call} → Accepted s → HostedAll s calls → Calls s calls
host-calls acc none = no_call
host-calls acc (one {s} {s'} {t'} {r'} {k} {more} t budget r m rest) =
    let same = hosted-call s t budget r m acc.bytes in
    let after : s' ≡ bytes_after s (host_entries t r) budget = ap (λ (c : Call). c.bytes) same in
    made-call (host_entries t r) budget same (host-calls (rw after (still-a-sheet s acc (host_entries t r) budget).0) rest)

pub host-keeps : {s : List ℕ} {calls : List Call} → Accepted s → HostedAll s calls → Demand3 s calls
host-keeps acc made = demand3 acc (host-calls acc made)

-- S8.8: they make few raises
pub host-raises-few : {s : List ℕ} {calls : List Call} → Accepted s → HostedAll s calls → raises_in calls < many_raises
host-raises-few acc made = all-raises-few acc (host-calls acc made)

-- S8.11: budgets above the gaps at the outset leave the start settled
pub host-ends : {s : List ℕ} {calls : List Call} → Accepted s → HostedAll s calls →
    gaps (problem_of s) (cells_of s) < budgets_in calls →
    solved (start_cell s (left s calls)) ≡ true
host-ends acc made = work-ends acc (host-calls acc made)
