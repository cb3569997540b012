-- The states that the plan reaches: the definition's test of them, and flags that hold it.
use Prim.Native.Nat.{ℕ, ◌+◌, ◌*◌, ◌<◌, ◌≤◌}
use mathlib.Core.Path.{◌≡◌, refl, ap, sym, ◌∙◌}
use mathlib.Core.Bool.{Bool, true, false, ◌||◌, or-false}
use mathlib.Core.List.{List, [], ◌∷◌, append-nil}
use native.Mathlib.Omega.{arith}
use native.Mathlib.Numerals.{add-one}
use borrow.Author.Tests.{eqb-true, eqb-false}
use lib.Dec.{eqb}
use lib.ListN.{length, get_or, set, replicate, length-set, length-replicate, get_or-replicate}
use lib.Seq.{get_or-set_same, get_or-set_other}
use Rattle.model.specs.Tests.{also}
use Rattle.model.specs.Problem.{Action, Node, Problem, Cell, states, node_at, action_at, cell_of}
use Rattle.model.specs.Read.{problem_of, cells_of}
use Rattle.sheet.specs.Sheet.{IsTerminal, IsDecision, Below}
use Rattle.sheet.proofs.Laws.{is-terminal, is-decision, actions_at}
use Rattle.layout.proofs.Shapes.{member}
use Rattle.theory.specs.Consistent.{WellFormed}
use Rattle.listing.specs.Listing.{state_line, chosen_successors_of, chosen_successors, listed, reached_below, state_lines, max_state_line}
use Rattle.sheet.specs.declared.put.Page.{Page}
use Rattle.sheet.specs.Put.{HasRoom, Appended}
use Rattle.listing.specs.Put.{Chooses, flagged}
use Rattle.sheet.proofs.Putting.{appended_none, appended-behind}

-- flags that go up one after the other
pub flagged-none : (f : List Bool) → flagged f [] ≡ f
unfolding flagged
flagged-none f = refl

pub flagged-length : (f : List Bool) (ts : List ℕ) → length (flagged f ts) ≡ length f
unfolding flagged
flagged-length f [] = refl
flagged-length f (t ∷ ts) = flagged-length (set f t true) ts ∙ length-set f t true

pub flagged-first : {ts us : List ℕ} {t : ℕ} (f : List Bool) → ts ≡ t ∷ us → flagged (set f t true) us ≡ flagged f ts
unfolding flagged
flagged-first f e = rw e refl

-- which flags are up then
pub flagged-at : (f : List Bool) (ts : List ℕ) (t : ℕ) → t < length f →
    get_or (flagged f ts) t false ≡ (get_or f t false || listed t ts)
unfolding flagged listed
flagged-at f [] t lt = sym (or-false (get_or f t false))
flagged-at f (u ∷ ts) t lt = flagged-at (set f u true) ts t (rw length-set lt) ∙ go (eqb t u) refl (get_or f t false) refl
  where
    go : (b : Bool) → eqb t u ≡ b → (g : Bool) → get_or f t false ≡ g →
        (get_or (set f u true) t false || listed t ts) ≡ (g || (b || listed t ts))
    go true e true k = rw (eqb-true t u e, get_or-set_same f u true false (rw (eqb-true t u e) at lt))
    go true e false k = rw (eqb-true t u e, get_or-set_same f u true false (rw (eqb-true t u e) at lt))
    go false e true k = rw (get_or-set_other f u t true false (eqb-false t u e), k)
    go false e false k = rw (get_or-set_other f u t true false (eqb-false t u e), k)

-- The action that is chosen at a decision which the plan reaches.
pub chosen-exists : {s : List ℕ} {i : ℕ} → IsDecision s i → Chooses (problem_of s) (cells_of s) i →
    (cell_of (cells_of s) i).chosen < length (actions_at (problem_of s) i)
chosen-exists {s} {i} d chooses = chooses _ (actions_at (problem_of s) i) (is-decision (node_at (problem_of s) i) d.tag)

-- its successors, which are states
module _ {s : List ℕ} {i : ℕ} (d : IsDecision s i) {a : Action}
    (is : a ≡ action_at (actions_at (problem_of s) i) (cell_of (cells_of s) i).chosen) where
  pub chosen-successors : a.successors ≡ chosen_successors (problem_of s) (cells_of s) i
  chosen-successors =
      ap (λ (x : Action). x.successors) is ∙
      sym (ap (λ (n : Node). chosen_successors_of n (cell_of (cells_of s) i)) (is-decision (node_at (problem_of s) i) d.tag))

  pub chosen-leads : WellFormed (problem_of s) → Below (states (problem_of s)) a.successors
  chosen-leads formed = rw is (λ j lt. (formed.forward i _ _ (actions_at (problem_of s) i) (is-decision _ d.tag) (member _ j lt)).1)

pub no-successors : {s : List ℕ} {i : ℕ} → IsTerminal s i → chosen_successors (problem_of s) (cells_of s) i ≡ []
no-successors {s} {i} h = rw (is-terminal (node_at (problem_of s) i) h.tag)

-- The pass over the states: the lines of those below s that are reached are written, and the flags say which states the states below s
-- reach.
pub record Lined (p : Problem) (cells : List Cell) (n m : ℕ) (before : Page) (flags : List Bool) (page : Page) (s : ℕ) : Type 0 where
  pub text : Appended before page (state_lines p cells s)
  pub most : page.end ≤ before.end + max_state_line * s
  pub wide : length flags ≡ m
  pub up : (t : ℕ) → t < n → get_or flags t false ≡ reached_below p cells s t

module _ (p : Problem) (cells : List Cell) (n m : ℕ) (before : Page) where
  pub lined-none : (flags : List Bool) → length flags ≡ m →
      ((t : ℕ) → t < n → get_or flags t false ≡ reached_below p cells 0 t) →
      HasRoom before 0 → Lined p cells n m before flags before 0
  unfolding state_lines
  lined-none flags wide up room = record { text = appended_none before room; most = omega arith; wide = wide; up = up }

  module _ {flags : List Bool} {page : Page} {s : ℕ} (h : Lined p cells n m before flags page s) (lt : s < n) (le : n ≤ m) where
    pub lined-state : get_or flags s false ≡ true →
        {page' : Page} → Appended page page' (state_line p cells s) → page'.end ≤ page.end + max_state_line →
        {flags' : List Bool} → flags' ≡ flagged flags (chosen_successors p cells s) →
        Lined p cells n m before flags' page' (s + 1)
    unfolding state_lines reached_below also
    lined-state e {page'} w few {flags'} up = record {
      text = rw (add-one, reached-now) (appended-behind h.text w);
      most = omega (arith, h.most);
      wide = rw up (flagged-length flags (chosen_successors p cells s) ∙ h.wide);
      up = λ t l. rw (add-one, up, reached-now)
          (flagged-at flags (chosen_successors p cells s) t (omega (arith, h.wide)) ∙ rw (h.up t l));
    }
      where
        reached-now : reached_below p cells s s ≡ true
        reached-now = sym (h.up s lt) ∙ e

    pub lined-skip : get_or flags s false ≡ false → Lined p cells n m before flags page (s + 1)
    unfolding state_lines reached_below also
    lined-skip e = record {
      text = rw (add-one, not-reached, append-nil) h.text;
      most = omega (arith, h.most);
      wide = h.wide;
      up = λ t l. rw (add-one, not-reached) (h.up t l ∙ sym (or-false (reached_below p cells s t)));
    }
      where
        not-reached : reached_below p cells s s ≡ false
        not-reached = sym (h.up s lt) ∙ e

-- at the outset the start's flag alone is up
module _ (f : List Bool) (m : ℕ) (down : f ≡ replicate m false) where
  flags-count : length f ≡ m
  flags-count = rw (down, length-replicate)

  pub started : (p : Problem) (cells : List Cell) (start : ℕ) → start ≡ p.start →
      (t : ℕ) → t < m → get_or (set f start true) t false ≡ reached_below p cells 0 t
  unfolding reached_below
  started p cells start e t lt = rw (← e) (go (eqb t start) refl)
    where
      go : (b : Bool) → eqb t start ≡ b → get_or (set f start true) t false ≡ b
      go true k = rw (← eqb-true t start k) (get_or-set_same f t true false (rw flags-count lt))
      go false k = get_or-set_other f start t true false (eqb-false t start k) ∙ rw (down, get_or-replicate m t false false lt)
