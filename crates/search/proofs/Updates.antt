-- What an update leaves in the bytes, and the answers of a state that has no action to try and of a decision none of whose
-- actions passed.
use Prim.Native.Nat.{ℕ, ◌+◌, ◌<◌, ◌≤◌}
use mathlib.Core.Path.{◌≡◌, ◌∙◌, sym}
use mathlib.Core.Logic.{◌⊎◌, inl, inr}
use mathlib.Core.List.{List}
use native.Mathlib.Omega.{arith}
use native.Mathlib.Numerals.{add-one}
use lib.ListN.{length, set}
use lib.Seq.{get_or-set_same}
use Rattle.model.specs.Problem.{Problem, Cell, cell, states, node_at, cell_of, set_value, set_solved}
use Rattle.model.specs.Format.{put32, terminal_tag, tag_of, value_offset}
use Rattle.model.specs.Read.{problem_of, cells_of}
use Rattle.model.specs.Ldfs.{Search, Visit, success, failure, halt, value_at, marked, update, finish}
use Rattle.sheet.specs.Sheet.{Sheet}
use Rattle.sheet.proofs.Laws.{cells_are, named, has-cell, chosen-room, with_value, with-end-solved, with-decision-solved}
use Rattle.theory.proofs.Basics.{lt-or-le}
use Rattle.theory.proofs.Turns.{update-stores, update-raises, update-halts}
use Rattle.std.specs.Prelude.{Option, Some, None}
use Rattle.search.specs.declared.visits.Visited.{Visited}
use Rattle.search.specs.declared.visits.Visited.TheVariants.{Success, Failure, Halt}
use Rattle.search.specs.declared.visits.OpenDecision.{OpenDecision}
use Rattle.search.specs.Opens.{ValueAt, Opens}
use Rattle.search.specs.Did.{search, visit_of, after_update, Stored, Did}

-- a visit done: the bytes hold the cells that it says
pub did : {s t : List ℕ} {p : Problem} {cells : List Cell} {v : Visited} {o : Visit} →
    Sheet s t p cells → visit_of cells v ≡ o → Did t p s v o
did h e = record { sheet = named h; said = rw (cells_are h) e }

pub also-said : {s t : List ℕ} {p : Problem} {v : Visited} {o o' : Visit} → Did t p s v o → o ≡ o' → Did t p s v o'
also-said d e = record { sheet = d.sheet; said = d.said ∙ e }

stored : {s t : List ℕ} {p : Problem} {cells : List Cell} {r : ℕ} {u : Option ℕ} {o : (Search → Visit) → Visit} →
    Sheet s t p cells → ((next : Search → Visit) → after_update cells r u next ≡ o next) → Stored t p s r u o
stored h e = record { sheet = named h; said = rw (cells_are h) e }

abbrev updated : List ℕ → ℕ → ℕ → ℕ → ℕ → (Search → Visit) → Visit
updated s i x budget r next = update budget i x next (search (cells_of s) r)

-- the value of state i, which stands at `at`, becomes x
module _ {s t : List ℕ} {p : Problem} {i at value : ℕ} (g : ValueAt s t p i at value) (x budget r : ℕ) where
  with-x : {s' : List ℕ} → s' ≡ put32 s at x → Sheet s' t p (set_value (cells_of s) i x)
  with-x e = rw (e, g.place) (with_value g.sheet i g.below x)

  pub did-raise : value < x → r < budget → {s' : List ℕ} → s' ≡ put32 s at x →
      Stored t p s' r (Some (r + 1)) (updated s i x budget r)
  did-raise lt room e = stored (with-x e) (rw add-one (λ next. sym (update-raises budget i x next _ (omega (arith, g.is)) room)))

  pub did-halt : value < x → budget ≤ r → Stored t p s r None (updated s i x budget r)
  did-halt lt full = stored g.sheet (λ next. sym (update-halts budget i x next _ (omega (arith, g.is)) full))

  pub did-store : x ≤ value → {s' : List ℕ} → s' ≡ put32 s at x →
      Stored t p s' r (Some r) (updated s i x budget r)
  did-store le e = stored (with-x e) (λ next. sym (update-stores budget i x next _ (omega (arith, g.is))))

-- the value of a decision that is visited
pub value-of-open : {s t : List ℕ} {d : OpenDecision} → Opens s t d → ValueAt s t (problem_of s) d.state d.cell d.value
value-of-open g = let w = g.decision.within in record { sheet = w.sheet; below = w.below; place = g.place; is = g.is }

-- its value, mark and chosen action are inside
pub value_room : {s t : List ℕ} {d : OpenDecision} → Opens s t d → d.cell + 6 ≤ length s
value_room g = let w = g.decision.within in omega (arith, g.place, chosen-room w.sheet _ w.below g.decision.tag)

-- a decision whose value stands at `at` is marked, and action n chosen
pub decision-marked : {s t : List ℕ} {p : Problem} {cells : List Cell} (i n : ℕ) {at : ℕ} → Sheet s t p cells → i < states p →
    (tag_of (node_at p i) ≡ terminal_tag → ⊥) →
    at ≡ value_offset p i → {s' : List ℕ} → s' ≡ set (set s (at + 4) 1) (at + 5) n → Sheet s' t p (set_solved cells i n)
decision-marked i n h lt tag place e = rw (e, place) (with-decision-solved h i lt tag n)

-- an update that was done has changed the value alone
changed : (s : List ℕ) {t s' : List ℕ} {p : Problem} (i x budget r : ℕ) {r' : ℕ} →
    Stored t p s' r (Some r') (updated s i x budget r) → cells_of s' ≡ set_value (cells_of s) i x
changed s {s' = s'} i x budget r d = go (lt-or-le (value_at before i) x) (lt-or-le r budget)
  where
    before : Search
    before = search (cells_of s) r

    -- the search that the update hands on
    handed : (w : Search) → update budget i x success before ≡ success w → cells_of s' ≡ w.cells
    handed w is = let same = d.said success ∙ is in cc

    go : (value_at before i < x) ⊎ (x ≤ value_at before i) → (r < budget) ⊎ (budget ≤ r) →
        cells_of s' ≡ set_value (cells_of s) i x
    go (inl up) (inl room) = handed _ (update-raises budget i x success before up room)
    go (inl up) (inr full) =
        let z : success _ ≡ halt before = d.said success ∙ update-halts budget i x success before up full in
        let no : ◌≡◌ {A = ℕ} 0 1 = cc in absurd (omega arith)
    go (inr le) room = handed _ (update-stores budget i x success before le)

-- an open state at which nothing is chosen, whose value becomes x
module _ {s t : List ℕ} {p : Problem} {i at value : ℕ} (g : ValueAt s t p i at value) (none : (cell_of (cells_of s) i).chosen ≡ 0)
    (x budget r : ℕ) where
  abbrev finished : Visit
  finished = finish budget i x (search (cells_of s) r)

  pub settles : {s' : List ℕ} {r' : ℕ} → Stored t p s' r (Some r') (updated s i x budget r) → {s'' : List ℕ} →
      s'' ≡ set s' (at + 4) 1 → Did t p s'' (Success r') finished
  unfolding finish
  settles {s'} d last =
      let raised = cell x (cell_of (cells_of s) i).mark (cell_of (cells_of s) i).chosen in
      let same = get_or-set_same (cells_of s) i raised (cell 0 0 0) (has-cell g.sheet i g.below) in
      let kept : (cell_of (cells_of s') i).chosen ≡ 0 = rw (changed s i x budget r d, same) none in
      let solved = with-end-solved d.sheet i g.below kept in
      did (rw (last, g.place) solved) (d.said (λ w. success (marked i 0 w)))

  pub no_room : {s' : List ℕ} → Stored t p s' r None (updated s i x budget r) → Did t p s' (Halt r) finished
  unfolding finish
  no_room d = did d.sheet (d.said (λ w. success (marked i 0 w)))

-- a decision whose value becomes the least price
module _ (s : List ℕ) {t : List ℕ} {p : Problem} (i budget r : ℕ) {x y : ℕ} (is : x ≡ y) {s' : List ℕ} where
  pub fails : {r' : ℕ} → Stored t p s' r (Some r') (updated s i x budget r) →
      Did t p s' (Failure r') (updated s i y budget r failure)
  fails d = rw (← is) (did d.sheet (d.said failure))

  pub fails-not : Stored t p s' r None (updated s i x budget r) → Did t p s' (Halt r) (updated s i y budget r failure)
  fails-not d = rw (← is) (did d.sheet (d.said failure))
