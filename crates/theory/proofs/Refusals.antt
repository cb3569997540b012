-- The first question whose answer is no, and the refusals of a call.
use Prim.Native.Nat.{ℕ, zero, suc, ◌<◌}
use mathlib.Core.Path.{◌≡◌, refl, sym, subst, ◌∙◌}
use mathlib.Core.Bool.{Bool, true, false}
use mathlib.Core.List.{List, [], ◌∷◌}
use native.Mathlib.Omega.{arith}
use Rattle.model.proofs.TestLaws.{never}
use Rattle.model.proofs.QuestionLaws.{AllYes, numbered, none-no, first_below}
use Rattle.model.specs.Questions.{Question, questions, first_no, refusal, refusal_under, question_at, answer_at, First}

-- where every answer is yes, each is
all-answered : (asked : List Question) → AllYes asked → (i : ℕ) → answer_at asked i ≡ true
all-answered [] h i = refl
all-answered (ask ∷ more) h zero = h.0
all-answered (ask ∷ more) h (suc i) = all-answered more h.1 i

-- a first no of some questions is the number of the first whose answer is no
pub first-is : (asked : List Question) (k : ℕ) → first_no asked ≡ suc k → First asked (suc k)
unfolding first_no
first-is [] k h = absurd (omega arith)
first-is (ask ∷ more) k h = go (ask.answer tt) refl (first-is more k)
  where
    before : (i : ℕ) → ask.answer tt ≡ true → ((j : ℕ) → j < i → answer_at more j ≡ true) → (j : ℕ) → j < suc i →
        answer_at (ask ∷ more) j ≡ true
    before i e earlier zero l = e
    before i e earlier (suc j) l = earlier j (omega arith)

    go : (b : Bool) → ask.answer tt ≡ b → (first_no more ≡ suc k → First more (suc k)) → First (ask ∷ more) (suc k)
    go true e ih =
        let f = ih (rw e at h) in
        record { behind = suc f.behind; number = f.number; no = f.no; yes_before = before f.behind e f.yes_before }
    go false e ih = record { behind = 0; number = rw e at h; no = e; yes_before = λ j l. absurd (omega arith) }

-- and that number is the first no
is-first : (asked : List Question) (i : ℕ) → answer_at asked i ≡ false → ((j : ℕ) → j < i → answer_at asked j ≡ true) →
    first_no asked ≡ (question_at asked i).number
unfolding first_no
is-first [] i h earlier = never (sym h)
is-first (ask ∷ more) zero h earlier = rw h
is-first (ask ∷ more) (suc i) h earlier = rw (earlier 0 (omega arith)) (is-first more i h (λ j l. earlier (suc j) (omega arith)))

-- where there is none, every answer is yes
pub none_is : (asked : List Question) → numbered 1 asked ≡ true → first_no asked ≡ 0 → (i : ℕ) → answer_at asked i ≡ true
none_is asked m e = all-answered asked (none-no asked m e)

module _ (s : List ℕ) (entries budget : ℕ) where
  -- a refusal is by the first question whose answer is no
  pub refused-first : (k : ℕ) → refusal s entries budget ≡ suc k → First (questions s entries budget) (suc k)
  unfolding refusal_under
  refused-first = first-is (questions s entries budget)

  -- its number is below those of the outcomes
  pub refused-below : (k : ℕ) → refusal s entries budget ≡ suc k → suc k < 100
  unfolding refusal_under
  refused-below k e = subst (λ n. n < 100) e (first_below 1 (questions s entries budget) refl)

  -- where there is none, every answer is yes
  pub unrefused-yes : refusal s entries budget ≡ 0 → (i : ℕ) → answer_at (questions s entries budget) i ≡ true
  unfolding refusal_under
  unrefused-yes = none_is (questions s entries budget) refl

  -- the first question whose answer is no is the refusal
  pub first-refuses : (k : ℕ) → First (questions s entries budget) k → refusal s entries budget ≡ k
  unfolding refusal_under
  first-refuses k f = is-first (questions s entries budget) f.behind f.no f.yes_before ∙ f.number
