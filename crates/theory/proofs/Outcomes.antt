-- What an outcome's number says: which case it is, and how the start's cell stands.
use Prim.Native.Nat.{ℕ, zero, suc, ◌<◌}
use mathlib.Core.Path.{◌≡◌, refl}
use mathlib.Core.Bool.{Bool, true, false}
use mathlib.Core.Logic.{◌⊎◌, inl, inr}
use mathlib.Core.List.{List}
use native.Mathlib.Omega.{arith}
use borrow.Author.Tests.{ltb-true, ltb-false}
use lib.Dec.{ltb}
use Rattle.model.specs.declared.Outcome.{Outcome}
use Rattle.model.specs.declared.Outcome.TheVariants.{Settled, Over, Stopped, None}
use Rattle.model.specs.Tests.{fork}
use Rattle.model.specs.Problem.{Cell, solved}
use Rattle.model.specs.Limits.{ceiling}
use Rattle.model.specs.Questions.{refusal}
use Rattle.model.specs.Report.{number, outcome_at, outcome_of, answer_to}
use Rattle.theory.proofs.Basics.{clash}
use Rattle.theory.proofs.Refusals.{refused-below}
use Rattle.theory.proofs.Called.{answer-worked, answer-refused}

-- an outcome's number tells which case it is: no refusal has the number of another outcome
pub record Numbered (o : Outcome) : Type 0 where
  pub settled : number o ≡ 100 → o ≡ Settled
  pub over : number o ≡ 101 → o ≡ Over
  pub stopped : number o ≡ 102 → o ≡ Stopped
  pub none : number o ≡ 103 → o ≡ None

-- of the start's cell after work
pub record OutcomeSays (c : Cell) (o : Outcome) : Type 0 where
  pub numbered : Numbered o
  pub some : (number o ≡ 100) ⊎ ((number o ≡ 101) ⊎ ((number o ≡ 102) ⊎ (number o ≡ 103)))
  pub settled : number o ≡ 100 → (solved c ≡ true) × (c.value < ceiling)
  pub over : number o ≡ 101 → (solved c ≡ true) × (c.value ≡ ceiling)
  pub stopped : number o ≡ 102 → solved c ≡ false
  pub none : number o ≡ 103 → (solved c ≡ true) × (ceiling < c.value)

pub outcome-says : (c : Cell) → OutcomeSays c (outcome_of c)
unfolding outcome_of outcome_at
outcome-says c = go (solved c) refl (ltb c.value ceiling) refl (ltb ceiling c.value) refl
  where
    go : (b : Bool) → solved c ≡ b → (l : Bool) → ltb c.value ceiling ≡ l → (m : Bool) → ltb ceiling c.value ≡ m →
        OutcomeSays c (fork b (λ _. fork l (λ _. Settled) (λ _. fork m (λ _. None) (λ _. Over))) (λ _. Stopped))
    go true e true l m _ = record {
      numbered = record {
        settled = λ _. refl;
        over = λ z. absurd (omega arith);
        stopped = λ z. absurd (omega arith);
        none = λ z. absurd (omega arith);
      };
      some = inl refl;
      settled = λ _. (e, ltb-true _ _ l);
      over = λ z. absurd (omega arith);
      stopped = λ z. absurd (omega arith);
      none = λ z. absurd (omega arith);
    }
    go true e false l true m = record {
      numbered = record {
        settled = λ z. absurd (omega arith);
        over = λ z. absurd (omega arith);
        stopped = λ z. absurd (omega arith);
        none = λ _. refl;
      };
      some = inr (inr (inr refl));
      settled = λ z. absurd (omega arith);
      over = λ z. absurd (omega arith);
      stopped = λ z. absurd (omega arith);
      none = λ _. (e, ltb-true _ _ m);
    }
    go true e false l false m = record {
      numbered = record {
        settled = λ z. absurd (omega arith);
        over = λ _. refl;
        stopped = λ z. absurd (omega arith);
        none = λ z. absurd (omega arith);
      };
      some = inr (inl refl);
      settled = λ z. absurd (omega arith);
      over = λ _. (e, omega (arith, ltb-false c.value ceiling l, ltb-false ceiling c.value m));
      stopped = λ z. absurd (omega arith);
      none = λ z. absurd (omega arith);
    }
    go false e l _ m _ = record {
      numbered = record {
        settled = λ z. absurd (omega arith);
        over = λ z. absurd (omega arith);
        stopped = λ _. refl;
        none = λ z. absurd (omega arith);
      };
      some = inr (inr (inl refl));
      settled = λ z. absurd (omega arith);
      over = λ z. absurd (omega arith);
      stopped = λ _. e;
      none = λ z. absurd (omega arith);
    }

-- and the other way: where the start is solved, its value tells the number
pub outcome-where : (c : Cell) → solved c ≡ true → let o = outcome_of c in
    (c.value < ceiling → number o ≡ 100) × (c.value ≡ ceiling → number o ≡ 101) × (ceiling < c.value → number o ≡ 103)
outcome-where c e = go says.some
  where
    says : OutcomeSays c (outcome_of c)
    says = outcome-says c

    go : let n = number (outcome_of c) in
        (n ≡ 100) ⊎ ((n ≡ 101) ⊎ ((n ≡ 102) ⊎ (n ≡ 103))) →
        (c.value < ceiling → n ≡ 100) × (c.value ≡ ceiling → n ≡ 101) × (ceiling < c.value → n ≡ 103)
    go (inl z) = let v = (says.settled z).1 in (λ _. z, λ h. absurd (omega arith), λ h. absurd (omega arith))
    go (inr (inl z)) = let v = (says.over z).1 in (λ h. absurd (omega arith), λ _. z, λ h. absurd (omega arith))
    go (inr (inr (inl z))) = clash e (says.stopped z)
    go (inr (inr (inr z))) = let v = (says.none z).1 in (λ h. absurd (omega arith), λ h. absurd (omega arith), λ _. z)

-- of every call
pub numbered : (s : List ℕ) (entries budget : ℕ) → Numbered (answer_to s entries budget).outcome
numbered s entries budget = go (refusal s entries budget) refl
  where
    go : (n : ℕ) → refusal s entries budget ≡ n → Numbered (answer_to s entries budget).outcome
    go zero e = rw (answer-worked s entries budget e) (outcome-says _).numbered
    go (suc k) e =
        let few = refused-below s entries budget k e in
        rw (answer-refused s entries budget k e)
        (record {
          settled = λ z. absurd (omega arith);
          over = λ z. absurd (omega arith);
          stopped = λ z. absurd (omega arith);
          none = λ z. absurd (omega arith);
        })
