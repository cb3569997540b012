-- Sheets of the first version, which had the smaller limit, the stricter order, a check at every junction, and plain junctions only.
use Prim.Native.Nat.{ℕ}
use mathlib.Core.Path.{◌≡◌, refl}
use mathlib.Core.Bool.{true}
use mathlib.Core.List.{List}
use native.Mathlib.Omega.{arith}
use borrow.Author.Tests.{eq-eqb, eqb-true}
use Rattle.model.proofs.TestLaws.{also-true}
use Rattle.model.proofs.QuestionLaws.{none-no, all_yes}
use Rattle.model.specs.Limits.{max_states}
use Rattle.model.specs.Format.{Bytes}
use Rattle.model.specs.Read.{problem_of}
use Rattle.model.specs.Questions.{sheet_questions_under}
use Rattle.model.specs.Earlier.{instead, strict_order, strictly_accepted, first_questions, first_accepted}
use Rattle.model.specs.Demands.{Raised, Loosened, Withdrawn, FormAdded}
use Rattle.theory.proofs.LimitLaws.{in-turn}
use Rattle.theory.proofs.Limits.{accepted-before}
use Rattle.theory.proofs.Loosened.{strict-in-order, order-loosened}
use Rattle.theory.proofs.Withdrawn.{says_then, then-accepted, checks-withdrawn}
use Rattle.theory.proofs.Counted.{all_right, form-added}

-- what each of the four changes kept, they keep
pub first-version : (s : List ℕ) → Bytes s → first_accepted s ≡ true →
    FormAdded 1024 s × Withdrawn 1024 s × Loosened 1024 s × Raised 1024 max_states s
unfolding first_accepted strictly_accepted instead
first-version s bytes acc =
    let (two, (three, (first, (_, (five, (strict, more)))))) = none-no (first_questions s) refl (eqb-true _ _ acc) in
    let (four, plain) = also-true _ _ first in
    let order = strict-in-order (problem_of s) strict in
    let was = says_then 1024 s (two, (three, (four, (all_right (problem_of s) plain, (five, (order, more)))))) in
    let (size, (head, (fields, (count, (ranges, (_, others)))))) = in-turn 1024 s was.today in
    let strictly =
    all_yes (instead (strict_order s) (sheet_questions_under 1024 s)) (size, (head, (fields, (count, (ranges, (strict, others)))))) in
    let kept = order-loosened 1024 s (eq-eqb _ _ strictly) in (
      form-added 1024 s (λ _. plain) (omega arith) bytes,
      checks-withdrawn 1024 (omega arith) s bytes (then-accepted 1024 s was),
      kept,
      accepted-before s kept.still_accepted,
    )
