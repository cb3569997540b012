-- What a visit keeps of the prices of a decision's actions.
use Rattle.std.specs.Prelude.{ℕ, ◌<◌, ◌≤◌, min, List}
use Rattle.model.specs.Problem.{Action, action_at}
use Rattle.model.specs.Limits.{no_plan}
use Rattle.search.specs.declared.kept.Kept.{Kept}

-- Of the first n actions, whose prices are f: none is below both of what is kept, and what is fresh is no less than the least of them. So
-- where the fresh is no larger than the old, it is the least.
pub record Keeps (f : Action → ℕ) (acts : List Action) (n : ℕ) (kept : Kept) : Type 0 where
  pub low : (i : ℕ) → i < n → min kept.old kept.fresh ≤ f (action_at acts i)
  pub high : (x : ℕ) → x ≤ no_plan → ((i : ℕ) → i < n → x ≤ f (action_at acts i)) → x ≤ kept.fresh
