-- What it means that tests hold.
use Prim.Native.Nat.{ℕ, zero, suc, ◌<◌, ◌≤◌}
use mathlib.Core.Path.{◌≡◌, refl, sym, ◌∙◌}
use mathlib.Core.Logic.{⊎_elim}
use mathlib.Core.Bool.{Bool, true, false}
use mathlib.Core.List.{List, [], ◌∷◌}
use native.Mathlib.Omega.{arith}
use native.Mathlib.Nat.{eq-or-lt_of_le}
use Rattle.model.specs.Tests.{also, all, every}

pub never {ℓ} : {T : Type ℓ} → false ≡ true → T
never h = let z : ◌≡◌ {A = ℕ} 0 1 = cc in absurd (omega arith)

pub also-true : (t : Bool) (more : Unit {0} → Bool) → also t more ≡ true → (t ≡ true) × (more tt ≡ true)
unfolding also
also-true true more h = (refl, h)
also-true false more h = never h

pub true-also : (t : Bool) (more : Unit {0} → Bool) → t ≡ true → more tt ≡ true → also t more ≡ true
unfolding also
true-also t more h g = rw h g

-- two tests one of which is known, and three
also-begin : (b : Bool) → also true (λ _. b) ≡ b
unfolding also
also-begin b = refl

pub also-yes : (b : Bool) → also b (λ _. true) ≡ b
unfolding also
also-yes true = refl
also-yes false = refl

pub also-no : (b : Bool) → also b (λ _. false) ≡ false
unfolding also
also-no true = refl
also-no false = refl

pub also-also : (a b : Bool) (more : Unit {0} → Bool) → also a (λ _. also b more) ≡ also (also a (λ _. b)) more
unfolding also
also-also true b more = refl
also-also false b more = refl

abbrev pub Each : List Bool → Type 0
Each [] = Unit {0}
Each (t ∷ ts) = (t ≡ true) × Each ts

pub all_true : (ts : List Bool) → all ts ≡ true → Each ts
unfolding all
all_true [] h = tt
all_true (true ∷ ts) h = (refl, all_true ts h)
all_true (false ∷ ts) h = never h

pub true-all : (ts : List Bool) → Each ts → all ts ≡ true
unfolding all
true-all [] h = refl
true-all (t ∷ ts) h = rw h.0 (true-all ts h.1)

pub all_one : (t : Bool) → all (t ∷ []) ≡ t
unfolding all
all_one true = refl
all_one false = refl

pub every_true : (n : ℕ) (f : ℕ → Bool) → every n f ≡ true → (i : ℕ) → i < n → f i ≡ true
unfolding every
every_true zero f h i lt = absurd (omega arith)
every_true (suc n) f h i lt =
    let g = also-true (every n f) (λ _. f n) h in
    let le : i ≤ n = omega arith in
    ⊎_elim (λ e. rw e g.1) (λ l. every_true n f g.0 i l) (eq-or-lt_of_le le)

pub true-every : (n : ℕ) (f : ℕ → Bool) → ((i : ℕ) → i < n → f i ≡ true) → every n f ≡ true
unfolding every
true-every zero f h = refl
true-every (suc n) f h = true-also (every n f) (λ _. f n) (true-every n f (λ i l. h i (omega arith))) (h n (omega arith))

-- every number below n + 1: 0 first, then those above it
pub every_first : (n : ℕ) (f : ℕ → Bool) → every (suc n) f ≡ also (f 0) (λ _. every n (λ i. f (suc i)))
unfolding every
every_first zero f = also-begin (f 0) ∙ sym (also-yes (f 0))
every_first (suc n) f = rw (every_first n f) (sym (also-also (f 0) (every n (λ i. f (suc i))) (λ _. f (suc n))))

pub every-false : (n : ℕ) (f : ℕ → Bool) (i : ℕ) → i < n → f i ≡ false → every n f ≡ false
every-false n f i lt h = go (every n f) refl
  where
    go : (b : Bool) → every n f ≡ b → b ≡ false
    go true e = sym (every_true n f e i lt) ∙ h
    go false e = refl
