-- What the passes of one call carry from one to the next, and how a pass may end.
use Prim.Native.Nat.{ℕ, suc, ◌+◌, ◌-◌, ◌<◌, ◌≤◌}
use mathlib.Core.Path.{◌≡◌, refl, ◌∙◌, sym}
use mathlib.Core.Bool.{true, false}
use mathlib.Core.List.{List}
use native.Mathlib.Omega.{arith}
use native.Mathlib.Numerals.{add-one}
use Rattle.model.specs.Problem.{Problem, states}
use Rattle.model.specs.Read.{problem_of, cells_of}
use Rattle.model.specs.Ldfs.{work_by, work}
use Rattle.sheet.specs.Sheet.{Sheet}
use Rattle.sheet.proofs.Laws.{problem-is}
use Rattle.theory.specs.Consistent.{WellFormed, Consistent}
use Rattle.theory.proofs.LimitLaws.{values-few}
use Rattle.theory.proofs.Leads.{Leads, stay, then}
use Rattle.theory.proofs.Work.{leads-bounded}
use Rattle.theory.proofs.Turns.{passes_from, pass-succeeds, pass-fails, pass-halts}
use Rattle.search.specs.declared.visits.Visited.{Visited}
use Rattle.search.specs.declared.visits.Visited.TheVariants.{Success, Failure, Halt}
use Rattle.search.specs.Did.{visiting, Did, DidPasses}
use Rattle.search.proofs.Trying.{reached, ends}

-- n passes have failed since the call began with the bytes s₀; now the bytes are s, with r raises
pub record Passing (t : List ℕ) (p : Problem) (budget : ℕ) (s₀ s : List ℕ) (n r : ℕ) : Type 0 where
  pub sheet : Sheet s t p (cells_of s)
  pub formed : WellFormed p
  pub leads : Leads p budget p.start (reached s₀ 0) (reached s r)
  -- each of them raised something
  pub few : n ≤ r
  pub run : work p (cells_of s₀) budget ≡ passes_from p budget n (reached s r)

pub sets-out : {t s : List ℕ} {p : Problem} {budget : ℕ} → Sheet s t p (cells_of s) → WellFormed p →
    Consistent p (cells_of s) → Passing t p budget s s 0 0
unfolding work_by
sets-out {budget} h wf cs = record {
  sheet = h;
  formed = wf;
  leads = stay (record { consistent = cs; within = omega arith });
  few = omega arith;
  run = let z : suc budget - 0 ≡ suc budget = omega arith in rw z;
}

-- passes stay far below what 64 bits hold, since raises do (S7.3)
pub bounded : {t : List ℕ} {p : Problem} {budget : ℕ} {s₀ s : List ℕ} {n r : ℕ} →
    Passing t p budget s₀ s n r → n < 18446744073709551615
bounded {p} {budget} {s₀} {s} {r} l =
    let few = leads-bounded p budget p.start (reached s₀ 0) (reached s r) refl l.leads in
    omega (arith, l.few, values-few (states p) l.sheet.shaped.most, few)

module _ {t : List ℕ} {p : Problem} {budget : ℕ} {s₀ s : List ℕ} {n r : ℕ} (g : Passing t p budget s₀ s n r)
    {start : ℕ} (at : start ≡ p.start) where
  -- one more pass leaves the bytes s', with the answer v
  abbrev Passed : List ℕ → Visited → Type 0
  Passed s' v = Did t (problem_of s) s' v (visiting (problem_of s) budget start (reached s r))

  own : {s' : List ℕ} {v : Visited} → Passed s' v → Did t p s' v (visiting p budget p.start (reached s r))
  own d = rw (at, problem-is g.sheet) at d

  budgeted : n ≤ budget
  budgeted = omega (arith, g.few, g.leads.ready.within)

  pub succeeds : {s' : List ℕ} {r' : ℕ} → Passed s' (Success r') →
      DidPasses t p s' (record { succeeded = true; begun = n + 1; raises = r' }) (work p (cells_of s₀) budget)
  succeeds d = record {
    sheet = (own d).sheet;
    said = sym (g.run ∙ rw add-one (pass-succeeds p budget n (reached s r) _ budgeted (sym (own d).said)));
  }

  pub halts : {s' : List ℕ} {r' : ℕ} → Passed s' (Halt r') →
      DidPasses t p s' (record { succeeded = false; begun = n + 1; raises = r' }) (work p (cells_of s₀) budget)
  halts d = record {
    sheet = (own d).sheet;
    said = sym (g.run ∙ rw add-one (pass-halts p budget n (reached s r) _ budgeted (sym (own d).said)));
  }

  module _ {s' : List ℕ} {r' : ℕ} (d : Passed s' (Failure r')) where
    gains : Leads p budget p.start (reached s r) (reached s' r') × (r < r')
    gains = ends g.formed g.formed.starts g.leads.ready (own d)

    -- what is left of the budget falls
    pub falls : budget - r' < budget - r
    falls = omega (arith, gains.1, gains.0.ready.within)

    pub fails : Passing t p budget s₀ s' (n + 1) r'
    fails = record {
      sheet = (own d).sheet;
      formed = g.formed;
      leads = then g.leads gains.0;
      few = omega (arith, g.few, gains.1);
      run = g.run ∙ rw add-one (pass-fails p budget n (reached s r) _ budgeted (sym (own d).said));
    }
