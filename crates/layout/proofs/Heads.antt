-- Question 3 under a limit of states, and under two.
use Prim.Native.Nat.{ℕ, ◌<◌, ◌≤◌}
use mathlib.Core.Path.{◌≡◌, sym, ◌∙◌}
use mathlib.Core.Bool.{true}
use mathlib.Core.List.{List}
use native.Mathlib.Omega.{arith}
use borrow.Author.Tests.{le-leb, leb-true, ltb-true, eqb-true}
use lib.ListN.{length, get_or}
use Rattle.model.specs.Format.{be16, head_length, states_in}
use Rattle.model.specs.Read.{tag}
use Rattle.model.specs.Questions.{question3}
use Rattle.model.proofs.TestLaws.{all_true}

-- question 3 under a limit, in numbers
pub head-says : {wanted limit : ℕ} (s : List ℕ) → question3 wanted limit s ≡ true →
    (tag s ≡ wanted) × (be16 s 1 ≡ head_length) × (8 ≤ length s) × (get_or s 3 0 ≤ 1) ×
    (1 ≤ be16 s 4) × (be16 s 4 ≤ limit) ×
    (be16 s 6 < be16 s 4)
unfolding question3
head-says s head = omega (arith, eqb-true, leb-true, ltb-true, all_true _ head)

-- limits that the number of stages is within give question 3 the same answer
pub head-same : (wanted a b : ℕ) (s : List ℕ) → be16 s states_in ≤ a → be16 s states_in ≤ b →
    question3 wanted a s ≡ question3 wanted b s
unfolding question3
head-same wanted a b s le le' = rw (le-leb (be16 s states_in) a le, le-leb (be16 s states_in) b le')

-- a larger limit takes what a smaller one takes
pub head-raised : (wanted : ℕ) {small large : ℕ} → small ≤ large → (s : List ℕ) →
    question3 wanted small s ≡ true → question3 wanted large s ≡ true
head-raised wanted {small} {large} le s h =
    let few = (head-says s h).5 in sym (head-same wanted small large s few (omega arith)) ∙ h
