-- A walk over the actions of state i of the sheet s.
use Prim.Native.Nat.{ℕ, ◌+◌, ◌<◌}
use mathlib.Core.Path.{◌≡◌, refl, sym, ap, ◌∙◌}
use mathlib.Core.Bool.{Bool, true, false}
use mathlib.Core.List.{List}
use native.Mathlib.Omega.{arith}
use borrow.Author.Tests.{eqb-true, eqb-false}
use lib.Dec.{eqb}
use lib.ListN.{length}
use Rattle.model.specs.Format.{tag_of, terminal_tag}
use Rattle.model.specs.Problem.{Problem, Action, states, action_at, node_at}
use Rattle.model.specs.Read.{problem_of}
use Rattle.sheet.specs.Sheet.{IsDecision, Place, Walk, Comes, action_of, walked}
use Rattle.sheet.proofs.Laws.{actions_at}

pub record Over (s : List ℕ) (i : ℕ) (w : Walk) : Type 0 where
  pub bytes : w.bytes ≡ s
  pub state : w.state ≡ i

module _ {s : List ℕ} {i : ℕ} {w : Walk} (o : Over s i w) where
  over-acts : walked w ≡ actions_at (problem_of s) i
  over-acts = rw (o.bytes, o.state) refl

  pub over-end : w.index ≡ length (walked w) → w.index ≡ length (actions_at (problem_of s) i)
  over-end e = e ∙ ap (λ (l : List Action). length l) over-acts

  module _ {a : Place} {w' : Walk} (c : Comes w a w') where
    pub over-next : Over s i w'
    over-next = record {
      bytes = ap (λ (x : Walk). x.bytes) c.then ∙ o.bytes;
      state = ap (λ (x : Walk). x.state) c.then ∙ o.state;
    }

    pub over-index : w'.index ≡ w.index + 1
    over-index = ap (λ (x : Walk). x.index) c.then

    pub over-more : w.index < length (actions_at (problem_of s) i)
    over-more = omega (arith, c.more, ap (λ (l : List Action). length l) over-acts)

    pub over-is : action_of a ≡ action_at (actions_at (problem_of s) i) w.index
    over-is = c.is ∙ ap (λ (l : List Action). action_at l w.index) over-acts

-- a state by its tag
pub ends : (p : Problem) (i : ℕ) {b : Bool} → b ≡ eqb (tag_of (node_at p i)) terminal_tag → b ≡ true → tag_of (node_at p i) ≡ terminal_tag
ends p i e g = eqb-true _ _ (sym e ∙ g)

pub decides : (s : List ℕ) (i : ℕ) {b : Bool} → i < states (problem_of s) → b ≡ eqb (tag_of (node_at (problem_of s) i)) terminal_tag →
    b ≡ false → IsDecision s i
decides s i lt e g = record { below = lt; tag = eqb-false _ _ (sym e ∙ g) }
