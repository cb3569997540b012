-- Passes, and the work of one call on cells.
use Prim.Native.Nat.{ℕ, zero, suc, ◌+◌, ◌*◌, ◌<◌, ◌≤◌}
use mathlib.Core.Path.{◌≡◌}
use mathlib.Core.Bool.{true, false}
use mathlib.Core.List.{List}
use native.Mathlib.Omega.{arith}
use Rattle.model.specs.Problem.{Problem, Cell, states, cell_of, value_of, solved}
use Rattle.model.specs.Limits.{no_plan}
use Rattle.model.specs.Ldfs.{Search, Visit, success, failure, halt, solved_at, visit, Passes, on_pass, passes, search_of, work}
use Rattle.model.specs.Ldfs.{passes_by, work_by}
use Rattle.model.specs.Optimal.{sum_below}
use Rattle.model.specs.History.{Change, History}
use Rattle.model.specs.Report.{cells_after, raises_of}
use Rattle.theory.specs.Consistent.{WellFormed, Consistent}
use Rattle.theory.proofs.Basics.{clash, sum-bounded}
use Rattle.theory.proofs.Leads.{Ready, Leads, then}
use Rattle.theory.proofs.Visits.{Visited, visit-does}

on-pass : (P : Visit → Type 0) (Q : Passes → Type 0) (n : ℕ) (r : Visit) (next : Search → Passes) → P r →
    ((w : Search) → P (success w) → Q (record { begun = n; ended = success w })) → ((w : Search) → P (failure w) → Q (next w)) →
    ((w : Search) → P (halt w) → Q (record { begun = n; ended = halt w })) → Q (on_pass n r next)
unfolding on_pass
on-pass P Q n (success w) next x h k l = h w x
on-pass P Q n (failure w) next x h k l = k w x
on-pass P Q n (halt w) next x h k l = l w x

-- how passes that begin at w end: the start is solved, or the budget is spent
abbrev Ended : Problem → ℕ → Search → Visit → Type 0
Ended p budget w (success w') = Leads p budget p.start w w' × (solved_at w' p.start ≡ true)
Ended p budget w (failure w') = ⊥
Ended p budget w (halt w') = Leads p budget p.start w w' × (w'.raises ≡ budget) × (solved_at w' p.start ≡ false)

record Passed (p : Problem) (budget n : ℕ) (w : Search) (r : Passes) : Type 0 where
  end : Ended p budget w r.ended
  few : r.begun + w.raises ≤ suc n + raises_of r

after-failure : {p : Problem} {budget : ℕ} {w w' : Search} → Leads p budget p.start w w' → (x : Visit) →
    Ended p budget w' x →
    Ended p budget w x
after-failure lead (success w'') y = (then lead y.0, y.1)
after-failure lead (failure w'') y = y
after-failure lead (halt w'') y = (then lead y.0, y.1, y.2)

-- what the work of one call does to consistent cells
pub record Worked (p : Problem) (cells : List Cell) (budget : ℕ) (r : Passes) : Type 0 where
  pub consistent : Consistent p (cells_after r)
  pub rises : (s : ℕ) → value_of cells s ≤ value_of (cells_after r) s
  pub keeps : (s : ℕ) → solved (cell_of cells s) ≡ true → cell_of (cells_after r) s ≡ cell_of cells s
  pub paid : raises_of r + sum_below (states p) (value_of cells) ≤ sum_below (states p) (value_of (cells_after r))
  pub within : raises_of r ≤ budget
  -- a call that leaves the start open has spent exactly its budget
  pub spent : solved (cell_of (cells_after r) p.start) ≡ false → raises_of r ≡ budget
  -- passes are at most raises plus 1
  pub few : r.begun ≤ suc (raises_of r)
  -- the changes of values that it made
  pub changes : List Change
  pub history : History p (record { cells = cells; raises = 0 }) changes (search_of r.ended)

module _ (p : Problem) (wf : WellFormed p) where
  passes-does : (budget f n : ℕ) (w : Search) → budget < w.raises + f → Ready p budget w →
      Passed p budget n w (passes p budget f n w)
  unfolding passes_by
  passes-does budget zero n w fuel ready = absurd (omega (arith, ready.within))
  passes-does budget (suc f) n w fuel ready =
      on-pass (Visited p budget p.start w.raises w) (Passed p budget n w) (suc n) (visit p budget (states p) p.start w) _
      (visit-does p wf budget (states p) p.start w (omega arith) wf.starts ready)
      (λ w' x. record { end = x; few = omega (arith, x.0.counts) })
      (λ w' x. let r = passes-does budget f (suc n) w' (omega (arith, x.1)) x.0.ready in
      record { end = after-failure x.0 (passes p budget f (suc n) w').ended r.end; few = omega (arith, r.few, x.1) })
      (λ w' x. record { end = x; few = omega (arith, x.0.counts) })

  pub work-does : (cells : List Cell) (budget : ℕ) → Consistent p cells → Worked p cells budget (work p cells budget)
  unfolding work_by
  work-does cells budget h =
      let r = passes-does budget (suc budget) 0 w (omega arith) (record { consistent = h; within = omega arith }) in
      go (passes p budget (suc budget) 0 w).begun (passes p budget (suc budget) 0 w).ended r.end r.few
    where
      w : Search
      w = record { cells = cells; raises = 0 }

      gains : (n : ℕ) (v : Visit) → Leads p budget p.start w (search_of v) →
          (solved_at (search_of v) p.start ≡ false → (search_of v).raises ≡ budget) → n + 0 ≤ 1 + (search_of v).raises →
          Worked p cells budget (record { begun = n; ended = v })
      gains n v lead spent few = record {
        consistent = lead.ready.consistent;
        rises = lead.rises;
        keeps = lead.keeps;
        paid = omega (arith, lead.paid);
        within = lead.ready.within;
        spent = spent;
        few = omega arith;
        changes = lead.changes;
        history = lead.history;
      }

      go : (n : ℕ) (v : Visit) → Ended p budget w v → n + 0 ≤ 1 + (search_of v).raises →
          Worked p cells budget (record { begun = n; ended = v })
      go n (success w') x few = gains n (success w') x.0 (λ o. clash x.1 o) few
      go n (failure w') x few = absurd x
      go n (halt w') x few = gains n (halt w') x.0 (λ _. x.1) few

-- in the midst of a call too, raises are at most the number of states times the largest value
pub leads-bounded : (p : Problem) (budget s : ℕ) (w w' : Search) → w.raises ≡ 0 → Leads p budget s w w' →
    w'.raises ≤ states p * no_plan
leads-bounded p budget s w w' e lead =
    omega (arith, lead.paid, sum-bounded (value_of w'.cells) no_plan (λ u. (lead.ready.consistent.sound u).small) (states p))
