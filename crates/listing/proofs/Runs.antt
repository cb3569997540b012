-- S10.9: the run that goes from each decision to the dearest successor of its chosen action, which its line names by `by`.
use Prim.Native.Nat.{ℕ, ◌+◌, ◌<◌}
use mathlib.Core.Path.{◌≡◌, refl}
use mathlib.Core.Bool.{true}
use mathlib.Core.List.{List, [], ◌∷◌}
use native.Mathlib.Omega.{arith}
use lib.ListN.{length}
use Rattle.model.specs.Problem.{worst, Action, Form, Node, terminal, decision, Problem, Cell, states, node_at, action_at}
use Rattle.model.specs.Problem.{cell_of, value_of, solved}
use Rattle.model.specs.Problem.{◌∈◌, here, there}
use Rattle.model.specs.Limits.{ceiling, no_plan}
use Rattle.model.specs.QValue.{Dearest}
use Rattle.model.specs.Policy.{Reach, arrived, onward, written}
use Rattle.theory.specs.Consistent.{WellFormed, Consistent}
use Rattle.theory.proofs.Basics.{downward}
use Rattle.theory.proofs.DearestLaws.{action-dearest, dearest-costs}
use Rattle.listing.specs.Listing.{dearest_chosen, Run, ends, goes}

-- from a state there is one such run at the most
pub run_only : {p : Problem} {cells : List Cell} {s c d : ℕ} {on also-on : List ℕ} → Run p cells s on c →
    Run p cells s also-on d →
    (also-on ≡ on) × (d ≡ c)
run_only (ends e) (ends e') = (refl, cc (e, e'))
run_only (ends e) (goes e' r') = let z : ◌≡◌ {A = ℕ} 0 1 = cc (e, e') in absurd (omega arith)
run_only (goes e r) (ends e') = let z : ◌≡◌ {A = ℕ} 0 1 = cc (e, e') in absurd (omega arith)
run_only (goes e r) (goes e' r') = let (same, costs) = run_only r r' in (cc (e, e', same, costs), cc (e, e', same, costs))

module _ (p : Problem) (cells : List Cell) (wf : WellFormed p) (con : Consistent p cells) where
  -- what a decision's line names is the dearest successor of its chosen action
  pub names-dearest : (s : ℕ) {form : Form} (acts : List Action) → node_at p s ≡ decision form acts →
      (cell_of cells s).chosen < length acts →
      Dearest (value_of cells) (action_at acts (cell_of cells s).chosen).successors (dearest_chosen p cells s)
  names-dearest s acts e exists = rw e (action-dearest p wf s (cell_of cells s).chosen acts e exists (value_of cells))

  -- a run from s, over states that the plan reaches, that costs the value of s
  abbrev RunsOn : ℕ → Type 0
  RunsOn s = (on : List ℕ) × Run p cells s on (value_of cells s) × ((t : ℕ) → t ∈ on → Reach p (written cells) s t)

  -- at a terminal the run is that state alone
  stays : (s cost : ℕ) → node_at p s ≡ terminal cost → value_of cells s ≡ cost → RunsOn s
  stays s cost e v = (s ∷ [], rw v (ends e), is)
    where
      is : (t : ℕ) → t ∈ (s ∷ []) → Reach p (written cells) s t
      is t here = arrived
      is t (there m) = absurd (elim m [ ])

  -- at a decision it goes on to the dearest successor
  goes_on : (s : ℕ) {form : Form} (acts : List Action) → node_at p s ≡ decision form acts →
      dearest_chosen p cells s ∈ (action_at acts (cell_of cells s).chosen).successors →
      value_of cells s ≡ (action_at acts (cell_of cells s).chosen).cost + value_of cells (dearest_chosen p cells s) →
      RunsOn (dearest_chosen p cells s) → RunsOn s
  goes_on s acts e m v (on, run, reach) = (s ∷ on, rw v (goes e run), is)
    where
      is : (t : ℕ) → t ∈ (s ∷ on) → Reach p (written cells) s t
      is t here = arrived
      is t (there l) = onward e refl m (reach t l)

  -- so from every solved state of a worst sheet whose value is below the ceiling
  abbrev Runs : ℕ → Type 0
  Runs s = solved (cell_of cells s) ≡ true → value_of cells s < ceiling → RunsOn s

  pub runs_on : p.kind ≡ worst → (s : ℕ) → Runs s
  runs_on kind = downward Runs (states p) (λ s above sol small. go s above sol small (node_at p s) refl)
    where
      go : (s : ℕ) → ((t : ℕ) → s < t → t < states p → Runs t) → solved (cell_of cells s) ≡ true →
          value_of cells s < ceiling →
          (n : Node) → node_at p s ≡ n → RunsOn s
      go s above sol small (terminal cost) e = stays s cost e ((con.sound s).at_end cost (rw e) sol)
      go s above sol small (decision form []) e = absurd (omega (arith, (con.sound s).at_end no_plan (rw e) sol))
      go s above sol small (decision form (a ∷ more)) e =
          let acts : List Action = a ∷ more in
          let settles = (con.sound s).settles acts e (omega arith) sol in
          let d = names-dearest s acts e settles.exists in
          let (later, exists) = wf.forward s (cell_of cells s).chosen (dearest_chosen p cells s) acts e d.among in
          let costs = dearest-costs (value_of cells) (action_at acts (cell_of cells s).chosen) d (rw kind at settles.priced) small in
          goes_on s acts e d.among costs
          (above (dearest_chosen p cells s) later exists (settles.below (dearest_chosen p cells s) d.among) (omega arith))
