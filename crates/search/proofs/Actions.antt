-- Action n of decision i, which stands at the offset o: what holds of it whatever the cells are.
use Prim.Native.Nat.{ℕ, ◌+◌, ◌*◌, ◌<◌}
use mathlib.Core.Path.{◌≡◌, ◌∙◌, sym}
use mathlib.Core.Bool.{true}
use mathlib.Core.List.{List}
use native.Mathlib.Omega.{arith}
use lib.ListN.{length, get_or, drop}
use Rattle.model.specs.Problem.{Problem, Cell, states, node_at, action_at}
use Rattle.model.specs.Format.{be16, terminal_tag, tag_of, action_offset}
use Rattle.model.specs.Read.{action_fits, action_read, problem_of}
use Rattle.model.specs.Limits.{max_actions}
use Rattle.layout.proofs.Actions.{successor-of}
use Rattle.layout.proofs.Shapes.{member}
use Rattle.sheet.specs.Sheet.{Sheet, Priced, IsDecision, Place, action_of, Leads, Walk, Comes}
use Rattle.sheet.proofs.Laws.{is-decision, actions_at, few-actions, action-is, action-in-place, action-priced, action-after}
use Rattle.theory.specs.Consistent.{WellFormed}

pub record Turn (p : Problem) (i n o : ℕ) : Type 0 where
  pub formed : WellFormed p
  pub below : i < states p
  pub tag : tag_of (node_at p i) ≡ terminal_tag → ⊥
  pub exists : n < length (actions_at p i)
  pub place : o ≡ action_offset p i n

module _ {p : Problem} {i n o : ℕ} (u : Turn p i n o) where
  -- its successors are later states
  pub later : (j : ℕ) → j < length (action_at (actions_at p i) n).successors →
      (i < get_or (action_at (actions_at p i) n).successors j 0) × (get_or (action_at (actions_at p i) n).successors j 0 < states p)
  later j lt = u.formed.forward i n _ (actions_at p i) (is-decision (node_at p i) u.tag) (member _ j lt)

  module _ {s t : List ℕ} {cells : List Cell} (h : Sheet s t p cells) where
    pub turn_is : action_read (drop o s) ≡ action_at (actions_at p i) n
    turn_is = action-is h i u.below u.tag n o u.place u.exists

    pub turn-fits : action_fits (drop o s) ≡ true
    turn-fits = action-in-place h i u.below u.tag n o u.place u.exists

    pub turn-priced : Priced s t o
    turn-priced = action-priced h i u.below u.tag n o u.place u.exists (λ j lt. (later j lt).1)

    pub turn-next : (r : ℕ) → r ≡ o + 7 + 2 * length (action_read (drop o s)).successors → r ≡ action_offset p i (n + 1)
    turn-next = action-after h i u.below u.tag n o u.place u.exists

    pub turn-few : n < max_actions
    turn-few = omega (arith, few-actions h i u.below u.tag, u.exists)

    -- its successors end where the next action stands
    pub turn_end : (r : ℕ) → r ≡ o + 7 + 2 * length (action_read (drop o s)).successors →
        r ≡ o + 7 + 2 * length (action_at (actions_at p i) n).successors
    turn_end r e = rw turn_is at e

    -- successor number j, which is f, stands at its offset and is a later state
    pub turn-later : (j : ℕ) {f : ℕ} → j < length (action_at (actions_at p i) n).successors → f ≡ be16 s (o + 7 + 2 * j) →
        (f ≡ get_or (action_at (actions_at p i) n).successors j 0) × (i < f) × (f < states p)
    turn-later j {f} lt e =
        let read : get_or (action_read (drop o s)).successors j 0 ≡ be16 s (o + 7 + 2 * j) = successor-of s o turn-fits j (rw turn_is lt) in
        let is : f ≡ get_or (action_at (actions_at p i) n).successors j 0 = e ∙ sym (rw turn_is at read) in
        let l = later j lt in
        (is, omega (arith, is, l), omega (arith, is, l))

-- where an action ends that is seen at its place
pub action-ended : {s : List ℕ} {o r : ℕ} {a : Place} → (a.bytes ≡ s) × (a.at ≡ o) → r ≡ a.at + 7 + 2 * length (action_of a).successors →
    r ≡ o + 7 + 2 * length (action_read (drop o s)).successors
action-ended e ends = rw (e.0, e.1) at ends

-- The next action of a walk over the actions of decision i of the sheet s.
module _ {s : List ℕ} {i : ℕ} {w w' : Walk} {a : Place} (bytes : w.bytes ≡ s) (state : w.state ≡ i) (h : Comes w a w') where
  pub comes-more : w.index < length (actions_at (problem_of s) i)
  comes-more = rw (bytes, state) at h.more

  pub comes-is : action_of a ≡ action_at (actions_at (problem_of s) i) w.index
  comes-is = rw (bytes, state) at h.is

  pub comes-then : w' ≡ record { bytes = s; state = i; index = w.index + 1 }
  comes-then = rw (bytes, state) at h.then

  pub comes-leads : WellFormed (problem_of s) → IsDecision s i → Leads s a
  comes-leads formed d = rw comes-is (λ j lt. (formed.forward i w.index _ _ (is-decision _ d.tag) (member _ j lt)).1)
