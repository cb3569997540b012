-- The inverse reads no entry of its list past the stages (S13.9).
use Prim.Native.Nat.{ℕ, zero, suc, ◌≤◌}
use mathlib.Core.Path.{◌≡◌, refl, sym, ◌∙◌}
use mathlib.Core.List.{List}
use native.Mathlib.Omega.{arith}
use lib.ListN.{take}
use Rattle.model.proofs.QuestionLaws.{none-no, joined-no}
use Rattle.model.specs.Format.{head_tag}
use Rattle.model.specs.Limits.{max_states}
use Rattle.model.specs.Problem.{states}
use Rattle.model.specs.Questions.{field_questions, first_no}
use Rattle.model.specs.Read.{problem_of}
use Rattle.layout.proofs.Index.{states-within}
use Rattle.order.specs.Asking.{question11_back, back_questions}

-- Two lists that begin alike, as far as there are stages, get the same answers.
pub back-same : (s xs ys : List ℕ) →
    (states (problem_of s) ≤ max_states → take (states (problem_of s)) xs ≡ take (states (problem_of s)) ys) →
    first_no (back_questions s xs) ≡ first_no (back_questions s ys)
unfolding question11_back
back-same s xs ys same = go (first_no (field_questions head_tag max_states s)) refl
  where
    go : (r : ℕ) → first_no (field_questions head_tag max_states s) ≡ r → first_no (back_questions s xs) ≡ first_no (back_questions s ys)
    go zero e = rw (same (states-within head_tag s (none-no (field_questions head_tag max_states s) refl e).1.0))
    go (suc r) e =
        let some : first_no (field_questions head_tag max_states s) ≡ 0 → ⊥ = λ z. omega (arith, e, z) in
        joined-no (field_questions head_tag max_states s) _ some ∙ sym (joined-no (field_questions head_tag max_states s) _ some)
