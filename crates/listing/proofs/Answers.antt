-- What `list` answers: a length that is within the buffer, and the outcome of the call.
use Prim.Native.Nat.{ℕ, ◌≤◌}
use mathlib.Core.Path.{◌≡◌, refl}
use mathlib.Core.Bool.{Bool, true, false}
use mathlib.Core.List.{List}
use native.Mathlib.Omega.{arith}
use lib.Dec.{leb}
use lib.ListN.{length, length-append}
use Rattle.std.specs.Prelude.{Some, None}
use Rattle.model.specs.declared.Outcome.TheVariants.{Refused}
use Rattle.model.specs.Tests.{fork}
use Rattle.model.specs.Questions.{questions, First}
use Rattle.model.specs.Report.{largest, answer_to}
use Rattle.theory.proofs.Called.{answer-first}
use Rattle.listing.specs.declared.Listing.{Listing}
use Rattle.listing.specs.Listing.{listing, enough, listed_as, text_listed}

module _ (s t out : List ℕ) (r : Listing) where
  -- where a buffer of any length gets a text, the text has the length that is answered, and the outcome is the call's
  given : (long : Bool) →
      Some r ≡
      fork long (λ _. Some (record { length = length (listing s (length t)); outcome = (answer_to s (length t) largest).outcome }))
      (λ _. None) →
      (long ≡ true) × ((r.length ≡ length (listing s (length t))) × (r.outcome ≡ (answer_to s (length t) largest).outcome))
  given true e = (refl, (cc, cc))
  given false e = let z : ◌≡◌ {A = ℕ} 0 1 = cc in absurd (omega arith)

  module _ (promised : Some r ≡ listed_as s t out) where
    pub listed-outcome : r.outcome ≡ (answer_to s (length t) largest).outcome
    unfolding listed_as
    listed-outcome = (given (leb enough (length out)) promised).1.1

    -- the refusal that is answered is that of the first question whose answer is no (S5.1)
    pub listed-refused : (k : ℕ) → First (questions s (length t) largest) k → r.outcome ≡ Refused k
    listed-refused k f = rw (listed-outcome, answer-first s (length t) largest k f)

    pub listed-fits : (out' : List ℕ) → out' ≡ text_listed s t out → r.length ≤ length out'
    unfolding listed_as text_listed
    listed-fits out' e =
        let g = given (leb enough (length out)) promised in
        let is : r.length ≡ length (listing s (length t)) = g.1.0 in rw (e, g.0, length-append) (omega arith)
