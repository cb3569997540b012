-- The first of questions 5, 6, 11, 7 and 8 whose answer is no, one after the other.
use Prim.Native.Nat.{ℕ, zero, suc, ◌-◌, ◌<◌, ◌≤◌}
use mathlib.Core.Path.{◌≡◌, refl, sym, ap, ◌∙◌}
use mathlib.Core.Bool.{Bool, true, false}
use mathlib.Core.List.{List, ◌∷◌, ◌++◌}
use native.Mathlib.Omega.{arith}
use borrow.Author.Tests.{eq-eqb, ne_eqb}
use lib.ListN.{length, get_or, take, replicate, length-replicate}
use lib.Seq.{get_or-take, length-take-le, ext_get_or}
use Rattle.model.specs.Problem.{Problem, Cell, states}
use Rattle.model.specs.Questions.{question, finding_questions, mark_questions, first_no}
use Rattle.model.specs.Limits.{max_states}
use Rattle.model.specs.Format.{head_tag, draft_tag}
use Rattle.model.specs.Read.{problem_of}
use Rattle.model.specs.Report.{on_refusal}
use Rattle.order.specs.Order.{order, inverse, lists}
use Rattle.order.specs.Moved.{at}
use Rattle.rearrange.specs.Waits.{waiting}
use Rattle.order.specs.Asking.{question11, question11_back, turn_states, rearranged_bytes, restored_bytes, output_given}
use Rattle.order.specs.Asking.{list_given}
use Rattle.order.proofs.Counting.{times-among, lists-perm, inverse-at}
use Rattle.order.proofs.Placing.{all_placed, order-perm}
use Rattle.order.proofs.Back.{flip}
use Rattle.std.proofs.Common.{Ok, Err}
use Rattle.questions.specs.Verdicts.{verdict}
use Rattle.questions.proofs.Asking.{Fielded, accepted-none, refused-some, then-more}
use Rattle.rearrange.specs.Turning.{Renumbers, Placed, OneLess, turned, over}

-- questions 5 and 6 answered yes, and then question 11
module _ (p : Problem) (cells : List Cell) (six eleven : Unit {0} → Bool) (yes : Ok tt ≡ verdict (first_no (finding_questions p cells six)))
  where
    turn-then : first_no (turn_states p cells six eleven) ≡ first_no (question 11 eleven ∷ mark_questions p cells)
    turn-then = then-more (finding_questions p cells six) (question 11 eleven ∷ mark_questions p cells) refl (sym yes)

    pub turn-11 : eleven tt ≡ false → Err 11 ≡ verdict (first_no (turn_states p cells six eleven))
    unfolding first_no verdict
    turn-11 a = let no-11 : first_no (question 11 eleven ∷ mark_questions p cells) ≡ 11 = rw a in ap verdict (sym (turn-then ∙ no-11))

    pub turn-marks : eleven tt ≡ true → verdict (first_no (mark_questions p cells)) ≡ verdict (first_no (turn_states p cells six eleven))
    unfolding first_no
    turn-marks a =
        let on : first_no (question 11 eleven ∷ mark_questions p cells) ≡ first_no (mark_questions p cells) = rw a in
        ap verdict (sym (turn-then ∙ on))

-- question 11 by the number of placed states
pub placed-all : (p : Problem) (n k : ℕ) → n ≡ states p → k ≡ length (order p) → k ≡ n → question11 p ≡ true
unfolding question11
placed-all p n k count is e = eq-eqb _ _ (sym is ∙ e ∙ count)

pub placed-some : (p : Problem) (n k : ℕ) → n ≡ states p → k ≡ length (order p) → (k ≡ n → ⊥) → question11 p ≡ false
unfolding question11
placed-some p n k count is ne = ne_eqb _ _ (λ e. ne (is ∙ e ∙ sym count))

-- all places, where as many states were placed as there are
pub all-places : (old : List ℕ) {k n : ℕ} {xs : List ℕ} → k ≡ n → take k old ≡ xs → take n old ≡ xs
all-places old e is = ap (λ (m : ℕ). take m old) (sym e) ∙ is

-- question 11 of the inverse
pub listed_by : (p : Problem) (list : List ℕ) (n : ℕ) → n ≡ states p → (r b : Bool) → r ≡ lists n (take n list) → r ≡ b → question11_back p
    list ≡ b
unfolding question11_back
listed_by p list n count r b is e = ap (λ (m : ℕ). lists m (take m list)) (sym count) ∙ sym is ∙ e

pub back-renumbers : (n : ℕ) (new list : List ℕ) → n ≤ length list → n ≤ length new → take n new ≡ inverse (take n list) →
    lists n (take n list) ≡ true → Renumbers n new list
back-renumbers n new list long wide e all = record {
  from_long = wide;
  to_long = long;
  perm = rw e (flip (lists-perm n (take n list) (length-take-le n list long) all));
}

-- what is left once the states are placed, each 1 less: the new numbers
module _ {p : Problem} {n : ℕ} {old waits : List ℕ} (h : Placed p n old waits) (count : n ≡ states p) where
  some-count : (u : ℕ) → u < n → at waits u ≡ suc (at (inverse (order p)) u)
  unfolding waiting
  some-count u l =
      let lu : u < states p = omega arith in
      let placed = times-among u (order p) (all_placed p h.full u lu) in
      h.counts u l ∙ rw placed (ap suc (sym (inverse-at (states p) (order p) h.full (all_placed p h.full) u lu)))

  less-of : (r : Bool) {last : List ℕ} → (r ≡ true → OneLess n waits last) → (r ≡ false → (u : ℕ) × (u < n) × (at waits u ≡ 0)) → OneLess
      n waits last
  less-of true less none = less refl
  less-of false less none = let (u, l, z) = none refl in absurd (omega (arith, some-count u l))

  module _ {r : Bool} {last : List ℕ} (less : r ≡ true → OneLess n waits last) (none : r ≡ false → (u : ℕ) × (u < n) × (at waits u ≡ 0))
    where
      last-long : n ≤ length last
      last-long = omega (arith, (less-of r less none).same, h.wide)

      pub new-numbers : take n last ≡ inverse (order p)
      new-numbers = ext_get_or 0 _ _ (length-take-le n last last-long ∙ (count ∙ sym (order-perm p h.full).to_length)) each
        where
          each : (u : ℕ) → u < length (take n last) → at (take n last) u ≡ at (inverse (order p)) u
          each u lu =
              let l : u < n = rw (length-take-le n last last-long) at lu in
              get_or-take n last u 0 l ∙ omega (arith, (less-of r less none).less u l, some-count u l)

      pub new-renumbers : Renumbers n old last
      new-renumbers = record {
        from_long = h.long;
        to_long = last-long;
        perm = rw (h.places, new-numbers, count) (order-perm p h.full);
      }

pub new-turned : (s : List ℕ) (n : ℕ) (old last out : List ℕ) → take n old ≡ order (problem_of s) → take n last ≡ inverse
    (order (problem_of s)) →
    over (turned head_tag s n old last) out ≡ over (rearranged_bytes s) out
new-turned s n old last out e f = rw (e, f)

pub new-listed : (s : List ℕ) (n : ℕ) (old list : List ℕ) → n ≡ states (problem_of s) → take n old ≡ order (problem_of s) →
    take n old ++ replicate (length list - n) 0 ≡ order (problem_of s) ++ replicate (length list - states (problem_of s)) 0
new-listed s n old list count e = rw (e, count)

pub back-turned : (s : List ℕ) (n : ℕ) (new list out : List ℕ) → n ≡ states (problem_of s) → take n new ≡ inverse (take n list) →
    over (turned draft_tag s n new list) out ≡ over (restored_bytes s list) out
back-turned s n new list out count e = rw (e, count)

-- arrays of zeros have room for the states of a sheet whose fields are in place
zeros-at : (m u : ℕ) → ◌≡◌ {A = ℕ} (get_or (replicate m 0) u 0) 0
zeros-at zero u = refl
zeros-at (suc m) zero = refl
zeros-at (suc m) (suc u) = zeros-at m u

pub zeros-asks : {s t : List ℕ} → Fielded s t → (states (problem_of s) ≤ length (replicate {A = ℕ} max_states 0)) ×
    ((u : ℕ) → ◌≡◌ {A = ℕ} (get_or (replicate max_states 0) u 0) 0)
zeros-asks f = (rw (length-replicate {A = ℕ} max_states 0) (omega (arith, f.within.sheet.shaped.most)), zeros-at max_states)

-- what is written where no question is answered no, and what stays where one is
pub given-none : (q : ℕ) → Ok tt ≡ verdict q → (made out : List ℕ) → over made out ≡ output_given q made out
unfolding on_refusal
given-none q every made out = rw (accepted-none q (sym every))

pub list-none : (q : ℕ) → Ok tt ≡ verdict q → (s list : List ℕ) →
    order (problem_of s) ++ replicate (length list - states (problem_of s)) 0 ≡ list_given q s list
unfolding on_refusal
list-none q every s list = rw (accepted-none q (sym every))

pub given-some : (q k : ℕ) → Err k ≡ verdict q → (made out : List ℕ) → out ≡ output_given q made out
unfolding on_refusal
given-some zero k err made out = absurd (refused-some 0 k (sym err) refl)
given-some (suc q) k err made out = refl

pub list-some : (q k : ℕ) → Err k ≡ verdict q → (s list : List ℕ) → list ≡ list_given q s list
unfolding on_refusal
list-some zero k err s list = absurd (refused-some 0 k (sym err) refl)
list-some (suc q) k err s list = refl
