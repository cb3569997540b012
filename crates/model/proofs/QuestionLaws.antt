-- Lists of numbered questions: their first no, and that there is none.
use Prim.Native.Nat.{ℕ, ◌<◌, ◌≤◌}
use mathlib.Core.Path.{◌≡◌, refl, sym, ◌∙◌}
use mathlib.Core.Bool.{Bool, true, false}
use mathlib.Core.Logic.{◌⊎◌, inl, inr}
use mathlib.Core.List.{List, [], ◌∷◌, ◌++◌}
use native.Mathlib.Omega.{arith}
use borrow.Author.Tests.{leb-true, ltb-true, eq-eqb}
use lib.Dec.{eqb, leb, ltb}
use Rattle.model.specs.Tests.{fork}
use Rattle.model.specs.Questions.{Question, first_no}
use Rattle.model.proofs.TestLaws.{never}

-- every question is answered yes
abbrev pub AllYes : List Question → Type 0
AllYes [] = Unit {0}
AllYes (asked ∷ more) = (asked.answer tt ≡ true) × AllYes more

-- is the number of every question `low` or more, and below those of the outcomes? It computes, so `refl` says so of a list that is
-- written out.
abbrev pub numbered : ℕ → List Question → Bool
numbered low [] = true
numbered low (asked ∷ more) =
    fork (leb low asked.number) (λ _. fork (ltb asked.number 100) (λ _. numbered low more) (λ _. false)) (λ _. false)

-- what that says of the first question, and of the others
record Numbered (low : ℕ) (asked : Question) (more : List Question) : Type 0 where
  above : low ≤ asked.number
  below : asked.number < 100
  rest : numbered low more ≡ true

numbered-first : (low : ℕ) (asked : Question) (more : List Question) → numbered low (asked ∷ more) ≡ true →
    Numbered low asked more
numbered-first low asked more h = go (leb low asked.number) refl (ltb asked.number 100) refl h
  where
    go : (a : Bool) → leb low asked.number ≡ a → (b : Bool) → ltb asked.number 100 ≡ b →
        fork a (λ _. fork b (λ _. numbered low more) (λ _. false)) (λ _. false) ≡ true → Numbered low asked more
    go true ea true eb e = record { above = leb-true _ _ ea; below = ltb-true _ _ eb; rest = e }
    go true ea false eb e = never e
    go false ea b eb e = never e

-- A first no is a number of the list.
pub first-from : (low : ℕ) (asked : List Question) → numbered low asked ≡ true → (first_no asked ≡ 0) ⊎ (low ≤ first_no asked)
unfolding first_no
first-from low [] m = inl refl
first-from low (asked ∷ more) m =
    let first = numbered-first low asked more m in go (asked.answer tt) first.above (first-from low more first.rest)
  where
    go : (b : Bool) → low ≤ asked.number → (first_no more ≡ 0) ⊎ (low ≤ first_no more) →
        let n = fork b (λ _. first_no more) (λ _. asked.number) in (n ≡ 0) ⊎ (low ≤ n)
    go true le ih = ih
    go false le ih = inr le

pub first_below : (low : ℕ) (asked : List Question) → numbered low asked ≡ true → first_no asked < 100
unfolding first_no
first_below low [] m = omega arith
first_below low (asked ∷ more) m =
    let first = numbered-first low asked more m in go (asked.answer tt) first.below (first_below low more first.rest)
  where
    go : (b : Bool) → asked.number < 100 → first_no more < 100 → fork b (λ _. first_no more) (λ _. asked.number) < 100
    go true few ih = ih
    go false few ih = few

-- has no question the number k? It computes too, and then k is no first no.
abbrev pub unnumbered : ℕ → List Question → Bool
unnumbered k [] = true
unnumbered k (asked ∷ more) = fork (eqb asked.number k) (λ _. false) (λ _. unnumbered k more)

pub no_number : (k : ℕ) (asked : List Question) → unnumbered k asked ≡ true → 0 < k → first_no asked ≡ k → ⊥
unfolding first_no
no_number k [] m some h = omega arith
no_number k (asked ∷ more) m some h = go (asked.answer tt) (eqb asked.number k) refl m h (no_number k more)
  where
    go : (answer same : Bool) → eqb asked.number k ≡ same → fork same (λ _. false) (λ _. unnumbered k more) ≡ true →
        fork answer (λ _. first_no more) (λ _. asked.number) ≡ k → (unnumbered k more ≡ true → 0 < k → first_no more ≡ k → ⊥) → ⊥
    go answer true e m h ih = never m
    go true false e m h ih = ih m some h
    go false false e m h ih = never (sym e ∙ eq-eqb _ _ h)

-- Where the numbers are above 0, there is no first no just where every answer is yes.
pub none-no : (asked : List Question) → numbered 1 asked ≡ true → first_no asked ≡ 0 → AllYes asked
unfolding first_no
none-no [] m h = tt
none-no (asked ∷ more) m h =
    let first = numbered-first 1 asked more m in go (asked.answer tt) refl first.above (none-no more first.rest)
  where
    go : (b : Bool) → asked.answer tt ≡ b → 1 ≤ asked.number → (first_no more ≡ 0 → AllYes more) →
        (asked.answer tt ≡ true) × AllYes more
    go true e le ih = (e, ih (rw e at h))
    go false e le ih = let z : asked.number ≡ 0 = rw e at h in absurd (omega arith)

pub all_yes : (asked : List Question) → AllYes asked → first_no asked ≡ 0
unfolding first_no
all_yes [] h = refl
all_yes (asked ∷ more) h = rw h.0 (all_yes more h.1)

-- Two lists of questions, one put after the other: the first no of the first, and where that has none, of the second.
pub joined-no : (asked more : List Question) → (first_no asked ≡ 0 → ⊥) → first_no (asked ++ more) ≡ first_no asked
unfolding first_no
joined-no [] more some = absurd (some refl)
joined-no (first ∷ asked) more some = go (first.answer tt) refl (joined-no asked more)
  where
    go : (b : Bool) → first.answer tt ≡ b → ((first_no asked ≡ 0 → ⊥) → first_no (asked ++ more) ≡ first_no asked) →
        first_no ((first ∷ asked) ++ more) ≡ first_no (first ∷ asked)
    go true e ih = rw e (ih (λ z. some (rw e z)))
    go false e ih = rw e

pub joined-yes : (asked more : List Question) → AllYes asked → first_no (asked ++ more) ≡ first_no more
unfolding first_no
joined-yes [] more h = refl
joined-yes (first ∷ asked) more h = rw h.0 (joined-yes asked more h.1)
