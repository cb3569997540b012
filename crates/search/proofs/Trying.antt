-- What the loop over an action's successors carries, and each way through a turn of it.
use Prim.Native.Nat.{ℕ, suc, ◌+◌, ◌<◌, ◌≤◌}
use mathlib.Core.Path.{◌≡◌, refl, ◌∙◌, sym}
use mathlib.Core.List.{List}
use native.Mathlib.Omega.{arith}
use native.Mathlib.Numerals.{add-one}
use lib.ListN.{length, get_or, drop}
use Rattle.model.specs.Problem.{Action, Problem, Cell, states, action_at, value_of, set_solved}
use Rattle.model.specs.Read.{problem_of, cells_of, action_read}
use Rattle.model.specs.QValue.{q}
use Rattle.model.specs.Ldfs.{Search, Visit, success, failure, value_at, price_at}
use Rattle.sheet.specs.Sheet.{Sheet, Priced}
use Rattle.sheet.proofs.Laws.{problem-is, actions_at}
use Rattle.theory.specs.Consistent.{WellFormed, Consistent}
use Rattle.theory.proofs.QValueLaws.{q-same}
use Rattle.theory.proofs.Leads.{Ready, Leads, stay, then, wider, value-of}
use Rattle.theory.proofs.Visits.{Visited as Ends, visit-does}
use Rattle.theory.proofs.Turns.{successors_from, successor-halts, successor-fails, successor-dear, successor-passes, successors-end}
use Rattle.theory.proofs.Turns.{try-passes, try-fails, try-halts}
use Rattle.search.specs.declared.visits.Visited.{Visited}
use Rattle.search.specs.declared.visits.Visited.TheVariants.{Success, Failure, Halt}
use Rattle.search.specs.Did.{search, visit_of, visiting, trying, Workable, Did}
use Rattle.search.proofs.Actions.{Turn, turn_is, turn-priced, later}
use Rattle.search.proofs.Updates.{did}

abbrev pub reached : List ℕ → ℕ → Search
reached s r = search (cells_of s) r

pub workable : {s t : List ℕ} {p : Problem} → Sheet s t p (cells_of s) → WellFormed p → Consistent p (cells_of s) → Workable s
workable h wf cs = record { formed = rw (problem-is h) wf; consistent = rw (problem-is h) cs }

-- a sheet of the problem that the bytes s say is one of p's
pub back : {s s' t : List ℕ} {p : Problem} {cells cells' : List Cell} → Sheet s t p cells →
    Sheet s' t (problem_of s) cells' → Sheet s' t p cells'
back h g = rw (problem-is h) at g

-- how a visit to f ended, by its answer
pub ends : {s t : List ℕ} {p : Problem} {v : Visited} {budget f : ℕ} {w : Search} → WellFormed p → f < states p →
    Ready p budget w → Did t p s v (visiting p budget f w) → Ends p budget f w.raises w (visit_of (cells_of s) v)
ends {p} {budget} {f} {w} wf state ready d = rw d.said (visit-does p wf budget (states p) f w (omega arith) state ready)

-- the value of a state stays while later ones are visited
pub held : {p : Problem} {budget i : ℕ} {w w' : Search} → Leads p budget (suc i) w w' → value_at w' i ≡ value_at w i
held {i} l = value-of (l.below i (omega arith))

-- action n of decision i, which stands at o, is tried from the bytes s and r raises: its price is not above the decision's value
pub record Begun (t : List ℕ) (p : Problem) (budget i n o value : ℕ) (s : List ℕ) (r : ℕ) : Type 0 where
  pub sheet : Sheet s t p (cells_of s)
  pub ready : Ready p budget (reached s r)
  pub turn : Turn p i n o
  pub now : value ≡ value_of (cells_of s) i
  pub fair : price_at p (reached s r) (action_at (actions_at p i) n) ≤ value

-- the loop over the successors of action a has come to successor j, with the bytes s and r raises
pub record Trying (t : List ℕ) (p : Problem) (budget i : ℕ) (a : Action) (s₀ : List ℕ) (r₀ : ℕ) (s : List ℕ)
    (r j : ℕ) : Type 0 where
  pub sheet : Sheet s t p (cells_of s)
  pub leads : Leads p budget (suc i) (reached s₀ r₀) (reached s r)
  pub fair : price_at p (reached s r) a ≤ value_at (reached s r) i
  pub run : successors_from p budget (visiting p budget) i a 0 (reached s₀ r₀) ≡
      successors_from p budget (visiting p budget) i a j (reached s r)

module _ {t : List ℕ} {p : Problem} {budget i n o value : ℕ} {s₀ : List ℕ} {r₀ : ℕ}
    (b : Begun t p budget i n o value s₀ r₀) where
  abbrev a : Action
  a = action_at (actions_at p i) n

  abbrev to : ℕ → Search → Visit
  to = visiting p budget

  pub tries : Trying t p budget i a s₀ r₀ s₀ r₀ 0
  tries = record { sheet = b.sheet; leads = stay b.ready; fair = omega (arith, b.fair, b.now); run = refl }

  -- every successor has passed, and the decision is marked
  pub succeeds : {s : List ℕ} {r j : ℕ} → Trying t p budget i a s₀ r₀ s r j → j ≡ length a.successors →
      {s' : List ℕ} → Sheet s' t p (set_solved (cells_of s) i n) → Did t p s' (Success r) (trying p budget i n (reached s₀ r₀))
  succeeds {s} {r} l e h =
      let all : successors_from p budget to i a 0 (reached s₀ r₀) ≡ success (reached s r) =
      l.run ∙ rw e (successors-end p budget to i a (reached s r)) in
      did h (sym (try-passes p budget to i (actions_at p i) n (reached s₀ r₀) (reached s r) all))

-- the loop stands at successor j, which there is: f
pub record Standing (t : List ℕ) (p : Problem) (budget i n o value : ℕ) (s₀ : List ℕ) (r₀ : ℕ) (s : List ℕ) (r j f : ℕ) : Type 0 where
  pub begun : Begun t p budget i n o value s₀ r₀
  pub trying : Trying t p budget i (action_at (actions_at p i) n) s₀ r₀ s r j
  pub exists : j < length (action_at (actions_at p i) n).successors
  pub is : f ≡ get_or (action_at (actions_at p i) n).successors j 0

module _ {t : List ℕ} {p : Problem} {budget i n o value : ℕ} {s₀ : List ℕ} {r₀ : ℕ} {s : List ℕ} {r j f : ℕ}
    (h : Standing t p budget i n o value s₀ r₀ s r j f) where
  -- it is a later state
  pub ahead : (i < f) × (f < states p)
  ahead = let z = later h.begun.turn j h.exists in (omega (arith, h.is, z), omega (arith, h.is, z))

  abbrev tried : Action
  tried = action_at (actions_at p i) n

  -- it is visited, with the answer v
  module _ {s' : List ℕ} {v : Visited} (d : Did t (problem_of s) s' v (visiting (problem_of s) budget f (reached s r))) where
    own : Did t p s' v (visiting p budget f (reached s r))
    own = rw (problem-is h.trying.sheet) at d

    went : visiting p budget (get_or tried.successors j 0) (reached s r) ≡ visit_of (cells_of s') v
    went = rw (← h.is) (sym own.said)

  -- what was answered of the action
  abandoned : {s' : List ℕ} {r' : ℕ} → Sheet s' t p (cells_of s') →
      successors_from p budget (visiting p budget) i tried j (reached s r) ≡ failure (reached s' r') →
      Did t p s' (Failure r') (trying p budget i n (reached s₀ r₀))
  abandoned l e = did l (sym (try-fails p budget (visiting p budget) i (actions_at p i) n _ _ (h.trying.run ∙ e)))

  -- the visit did not succeed
  pub stops : {s' : List ℕ} (v : Visited) → Did t (problem_of s) s' v (visiting (problem_of s) budget f (reached s r)) →
      ((r' : ℕ) → v ≡ Success r' → ⊥) → Did t p s' v (trying p budget i n (reached s₀ r₀))
  stops (Success r') d other = absurd (other r' refl)
  stops (Failure r') d other = abandoned (own d).sheet (successor-fails p budget (visiting p budget) i tried j _ _ h.exists (went d))
  stops (Halt r') d other =
      let run = h.trying.run ∙ successor-halts p budget (visiting p budget) i tried j _ _ h.exists (went d) in
      did (own d).sheet (sym (try-halts p budget (visiting p budget) i (actions_at p i) n _ _ run))

  -- the visit succeeded
  module _ {s' : List ℕ} {r' : ℕ} (d : Did t (problem_of s) s' (Success r') (visiting (problem_of s) budget f (reached s r))) where
    since : Leads p budget (suc i) (reached s r) (reached s' r')
    since = wider (omega (arith, ahead)) (ends h.begun.turn.formed ahead.1 h.trying.leads.ready (own d)).0

    passes : price_at p (reached s' r') tried ≤ value_at (reached s' r') i → Trying t p budget i tried s₀ r₀ s' r' (j + 1)
    passes le = record {
      sheet = (own d).sheet;
      leads = then h.trying.leads since;
      fair = le;
      run = h.trying.run ∙ rw add-one (successor-passes p budget (visiting p budget) i tried j _ _ h.exists (went d) le);
    }

    -- nothing was raised, so no price changed
    pub passes-quietly : r' ≡ r → Trying t p budget i tried s₀ r₀ s' r' (j + 1)
    passes-quietly same =
        let price = q-same p.kind (value_at (reached s r)) (value_at (reached s' r')) tried in
        passes (omega (arith, h.trying.fair, since.quiet same i, price (λ u m. sym (since.quiet same u))))

    pub still-priced : Priced s' t o
    still-priced = turn-priced h.begun.turn (own d).sheet

    -- the action is priced anew, at y
    module _ {y : ℕ} (anew : y ≡ q (problem_of s').kind (value_of (cells_of s')) (action_read (drop o s'))) where
      price-is : y ≡ price_at p (reached s' r') tried
      price-is = rw (problem-is (own d).sheet, turn_is h.begun.turn (own d).sheet) at anew

      stays : value_at (reached s' r') i ≡ value
      stays = held since ∙ held h.trying.leads ∙ sym h.begun.now

      pub passes-priced : y ≤ value → Trying t p budget i tried s₀ r₀ s' r' (j + 1)
      passes-priced le = passes (omega (arith, stays, price-is))

      pub dear : value < y → Did t p s' (Failure r') (trying p budget i n (reached s₀ r₀))
      dear lt =
          abandoned (own d).sheet
          (successor-dear p budget (visiting p budget) i tried j _ _ h.exists (went d) (omega (arith, stays, price-is)))
