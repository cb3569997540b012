-- A call's four numbers are its report.
use Prim.Native.Nat.{ℕ}
use mathlib.Core.Path.{◌≡◌, refl}
use mathlib.Core.List.{List, [], ◌∷◌}
use Rattle.model.specs.Report.{report}
use Rattle.model.specs.Calls.{call_on}

pub call-report : (s : List ℕ) (entries budget : ℕ) →
    let c = call_on s entries budget in
    report s entries budget ≡ c.number ∷ c.price ∷ c.passes ∷ c.raises ∷ []
unfolding report
call-report s entries budget = refl
