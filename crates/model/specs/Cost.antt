-- S2.5, S2.11: what a stage, a check or a plan costs: a number of cents, uncut, or none where there is no complete plan. And how a cost is
-- written in a sheet.
use Rattle.std.specs.Prelude.{ℕ, ◌*◌, min, ◌≤◌, ltb}
use Rattle.std.proofs.Math.Option.{Option, none, some}
use Rattle.model.specs.Tests.{fork}
use Rattle.model.specs.Limits.{ceiling, no_plan}

abbrev pub Cost : Type 0
Cost = Option ℕ

-- S2.7: an amount above the ceiling counts as the ceiling
abbrev pub cut : ℕ → ℕ
cut x = min x ceiling

-- S2.7, S2.11: the amount that is written for a cost: a number cut to the ceiling, and 1,000,000,001 for none, which is not cut
unfoldable pub amount : Cost → ℕ
amount none = no_plan
amount (some x) = cut x

-- S2.8: the cost that a written value stands for: none above the ceiling
unfoldable pub cost_of : ℕ → Cost
cost_of x = fork (ltb ceiling x) (λ _. none) (λ _. some x)

-- an operation on two costs; none where either is none
unfoldable pub both : (ℕ → ℕ → ℕ) → Cost → Cost → Cost
both op none d = none
both op (some x) none = none
both op (some x) (some y) = some (op x y)

-- S2.10: a cost n times; none where it is none
abbrev pub times : ℕ → Cost → Cost
times n c = both ◌*◌ (some n) c

-- the lesser of two costs; none is more than any number
unfoldable pub lesser : Cost → Cost → Cost
lesser none d = d
lesser (some x) none = some x
lesser (some x) (some y) = some (min x y)

-- at most; none is more than any number
infix 4 ◌⊑◌
abbrev pub ◌⊑◌ : Cost → Cost → Type 0
c ⊑ none = Unit {0}
none ⊑ some y = ⊥
some x ⊑ some y = x ≤ y
