-- Not vacuous: calls of `ldfs_solve` on sheet A, two of them refused 1, end settled at 500.
use Prim.Native.Nat.{ℕ, ◌+◌, ◌-◌, ◌*◌}
use mathlib.Core.Path.{◌≡◌, refl}
use mathlib.Core.List.{List, [], ◌∷◌, map}
use lib.ListN.{replicate}
use Rattle.model.proofs.Computing.{computing}
use Rattle.model.specs.Limits.{max_states}
use Rattle.model.specs.Report.{largest}
use Rattle.model.specs.Calls.{Call}
use Rattle.model.specs.Demands.{Demand3}
use Rattle.model.specs.Rows.{sheet_a}
use Rattle.theory.proofs.Example.{accepted-A}
use Rattle.host.specs.Host.{host_number, host_sheet, host_result}
use Rattle.host.specs.HostCalls.{reported, host_call, HostedAll, none, one}
use Rattle.host.proofs.Promises.{host-keeps}

-- what a host sees of a call, and that of one with a table of so many bytes, a budget and a result of so many
abbrev seen : List ℕ → List ℕ → ℕ → List ℕ → Call
seen s t budget r = host_call budget (host_number s t budget r) (host_sheet s t budget r) (host_result s t budget r)

abbrev called : List ℕ → ℕ → ℕ → ℕ → Call
called s table budget result = seen s (replicate table 7) budget (replicate result 9)

-- the fewest bytes of a table
abbrev enough : ℕ
enough = 4 * max_states

-- budget 2, then a table that is too short, then a result that is too short, then the largest budget
abbrev stopped : List ℕ
stopped = host_sheet sheet_a (replicate (enough + 3) 7) 2 (replicate 30 9)

abbrev pub calls_a : List Call
calls_a =
    called sheet_a (enough + 3) 2 30 ∷ called stopped (enough - 1) 2 30
    ∷ called stopped enough 2 23 ∷ called stopped enough largest 24 ∷ []

pub hosted-A : HostedAll sheet_a calls_a
unfolding computing host_sheet
hosted-A =
    one (replicate (enough + 3) 7) 2 (replicate 30 9) (refl, (refl, (refl, refl)))
    (one (replicate (enough - 1) 7) 2 (replicate 30 9) (refl, (refl, (refl, refl)))
    (one (replicate enough 7) 2 (replicate 23 9) (refl, (refl, (refl, refl)))
    (one (replicate enough 7) largest (replicate 24 9) (refl, (refl, (refl, refl))) none)))

-- what they answer, as the bytes report it
pub answers-A : map (λ (c : Call). c.number ∷ c.price ∷ c.passes ∷ c.raises ∷ []) calls_a ≡
    (102 ∷ 200 ∷ 2 ∷ 2 ∷ []) ∷ (1 ∷ 0 ∷ 0 ∷ 0 ∷ [])
    ∷ (1 ∷ 0 ∷ 0 ∷ 0 ∷ []) ∷ (100 ∷ 500 ∷ 2 ∷ 1 ∷ []) ∷ []
unfolding computing host_number host_sheet host_result reported
answers-A = refl

pub demand-A : Demand3 sheet_a calls_a
demand-A = host-keeps accepted-A hosted-A
