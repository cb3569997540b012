-- What the loop over a decision's actions carries, and each way through a turn of it.
use Prim.Native.Nat.{ℕ, suc, ◌+◌, ◌*◌, ◌<◌, ◌≤◌, min}
use mathlib.Core.Path.{◌≡◌, refl, ◌∙◌, sym}
use mathlib.Core.Bool.{true, false}
use mathlib.Core.Option.{some}
use mathlib.Core.List.{List}
use native.Mathlib.Omega.{arith}
use native.Mathlib.Numerals.{add-one}
use lib.Dec.{eqb}
use lib.ListN.{length, get_or, drop}
use Rattle.model.specs.Problem.{Problem, states, node_at, action_at, cell_of, value_of}
use Rattle.model.specs.Format.{terminal_tag, action_tag, tag_of, value_offset, action_offset}
use Rattle.model.specs.Read.{problem_of, cells_of, action_read}
use Rattle.model.specs.Limits.{no_plan}
use Rattle.model.specs.QValue.{q, least}
use Rattle.model.specs.Ldfs.{Search, Visit, failure, value_at, solved_at, price_at, update, finish}
use Rattle.sheet.specs.Sheet.{Sheet, Within}
use Rattle.sheet.proofs.Laws.{problem-is, within, is-decision, actions_at, action-stands, action-ends}
use Rattle.theory.specs.Consistent.{end_of, WellFormed}
use Rattle.theory.proofs.QValueLaws.{q-mono}
use Rattle.theory.proofs.Leads.{Ready, Leads, stay, then}
use Rattle.theory.proofs.Visits.{abandoned-leads}
use Rattle.theory.proofs.Turns.{visit-decision, actions_from, action-skipped, action-passes, action-fails, action-halts, actions-end}
use Rattle.search.specs.declared.kept.Kept.{Kept}
use Rattle.search.specs.declared.visits.Visited.{Visited}
use Rattle.search.specs.declared.visits.Visited.TheVariants.{Success, Failure, Halt}
use Rattle.search.specs.declared.visits.OpenDecision.{OpenDecision}
use Rattle.search.specs.Did.{visit_of, visiting, trying, Workable, Did}
use Rattle.search.specs.Keeps.{Keeps}
use Rattle.search.specs.Opens.{Opens, Fair}
use Rattle.search.proofs.Actions.{Turn, turn_is, turn-next}
use Rattle.search.proofs.Ends.{barren-end, ends-said}
use Rattle.search.proofs.Keeping.{keeps-none, keeps-skipped, keeps-abandoned}
use Rattle.search.proofs.Updates.{did, also-said}
use Rattle.search.proofs.Trying.{reached, held, workable}

-- an open decision, at which the visit began with the bytes s and r raises
pub record Opened (t : List ℕ) (p : Problem) (budget : ℕ) (d : OpenDecision) (s : List ℕ) (r : ℕ) : Type 0 where
  pub sheet : Sheet s t p (cells_of s)
  pub formed : WellFormed p
  pub ready : Ready p budget (reached s r)
  pub below : d.state < states p
  pub tag : tag_of (node_at p d.state) ≡ terminal_tag → ⊥
  pub unsolved : solved_at (reached s r) d.state ≡ false
  pub place : d.cell ≡ value_offset p d.state
  pub now : d.value ≡ value_of (cells_of s) d.state

-- the loop over its actions has come to action n, whose place is o, with the bytes s and r raises; at the first nothing has changed, and
-- where there is one, what the visit says is what it says from action n on
pub record Acting (t : List ℕ) (p : Problem) (budget i : ℕ) (s₀ : List ℕ) (r₀ : ℕ) (s : List ℕ)
    (r n o : ℕ) (kept : Kept) : Type 0 where
  pub sheet : Sheet s t p (cells_of s)
  pub leads : Leads p budget (suc i) (reached s₀ r₀) (reached s r)
  pub upto : n ≤ length (actions_at p i)
  pub place : o ≡ action_offset p i n
  pub first : n ≡ 0 → (s ≡ s₀) × (r ≡ r₀)
  pub run : 0 < length (actions_at p i) →
      visiting p budget i (reached s₀ r₀) ≡ actions_from p budget (visiting p budget) i (actions_at p i) n (reached s r)
  pub keeps : Keeps (price_at p (reached s r)) (actions_at p i) n kept

module _ {t : List ℕ} {p : Problem} {budget : ℕ} {d : OpenDecision} {s₀ : List ℕ} {r₀ : ℕ}
    (w : Opened t p budget d s₀ r₀) where
  abbrev i : ℕ
  i = d.state

  abbrev to : ℕ → Search → Visit
  to = visiting p budget

  pub begins : {o : ℕ} {kept : Kept} → o ≡ action_offset p i 0 → (kept.fresh ≡ 1000000001) × (kept.old ≡ 1000000001) →
      Acting t p budget i s₀ r₀ s₀ r₀ 0 o kept
  begins e none = record {
    sheet = w.sheet;
    leads = stay w.ready;
    upto = omega arith;
    place = e;
    first = λ _. (refl, refl);
    run = λ has.
        visit-decision p budget w.formed i _ w.below (actions_at p i) has w.unsolved (is-decision (node_at p i) w.tag);
    keeps = keeps-none _ none;
  }

  module _ {s : List ℕ} {r n o : ℕ} {kept : Kept} (m : Acting t p budget i s₀ r₀ s r n o kept) where
    -- the decision still has its value, and the sheet can be worked
    pub still-opens : 0 < length (actions_at p i) → Opens s t d
    still-opens has = record {
      decision = record { within = within m.sheet i w.below; tag = rw (problem-is m.sheet) w.tag };
      some = rw (problem-is m.sheet) has;
      place = rw (problem-is m.sheet) w.place;
      is = w.now ∙ sym (held m.leads);
    }

    pub still-workable : Workable s
    still-workable = workable m.sheet w.formed m.leads.ready.consistent

    pub stands : eqb (get_or s o 0) action_tag ≡ true → Turn p i n o
    stands e = record {
      formed = w.formed;
      below = w.below;
      tag = w.tag;
      exists = action-stands m.sheet i w.below w.tag n o m.place m.upto e;
      place = m.place;
    }

    -- no action is left
    module _ (e : eqb (get_or s o 0) action_tag ≡ false) where
      last : n ≡ length (actions_at p i)
      last = omega (arith, m.upto, action-ends m.sheet i w.below w.tag n o m.place e)

      pub some-there : 0 < n → 0 < length (actions_at p i)
      some-there has = omega (arith, last)

      pub all-kept : Keeps (q (problem_of s).kind (value_of (cells_of s))) (actions_at (problem_of s) i)
          (length (actions_at (problem_of s) i)) kept
      all-kept = rw (problem-is m.sheet) (rw last at m.keeps)

      -- there was one: the visit fails
      pub fails : 0 < n → {s' : List ℕ} {v : Visited} →
          Did t (problem_of s) s' v
          (update budget i (least (q (problem_of s).kind (value_of (cells_of s))) (actions_at (problem_of s) i)) failure (reached s r)) →
          Did t p s' v (visiting p budget i (reached s₀ r₀))
      fails has g =
          let ran = m.run (some-there has) in
          also-said (rw (problem-is m.sheet) at g) (sym (ran ∙ rw last (actions-end p budget to i (actions_at p i) (reached s r))))

      -- there was none: the decision is finished at none
      module _ (z : n ≡ 0) where
        ends : end_of (node_at p i) ≡ some no_plan
        ends = barren-end (node_at p i) w.tag (omega (arith, last))

        pub barren-given : Within s t i × ((cell_of (cells_of s) i).chosen ≡ 0)
        barren-given = (within m.sheet i w.below, (m.leads.ready.consistent.sound i).endless no_plan ends)

        pub finishes : {s' : List ℕ} {v : Visited} →
            Did t (problem_of s) s' v (finish budget i no_plan (reached s r)) →
            Did t p s' v (visiting p budget i (reached s₀ r₀))
        finishes g =
            let (same_bytes, same-raises) = m.first z in
            ends-said (cells_of s₀) budget i r₀ no_plan w.formed w.below w.unsolved ends
            (rw (problem-is m.sheet, same_bytes, same-raises) at g)

    module _ (u : Turn p i n o) where
      -- the price of the action, as the code says it
      priced : {s' : List ℕ} → Sheet s' t p (cells_of s') → {x : ℕ} →
          x ≡ q (problem_of s').kind (value_of (cells_of s')) (action_read (drop o s')) →
          x ≡ q p.kind (value_of (cells_of s')) (action_at (actions_at p i) n)
      priced h e = rw (problem-is h, turn_is u h) at e

      module _ {x : ℕ} (is : x ≡ q (problem_of s).kind (value_of (cells_of s)) (action_read (drop o s))) where
        pub fair : x ≤ d.value → Fair s d n o
        fair le = record {
          exists = rw (problem-is m.sheet) u.exists;
          place = rw (problem-is m.sheet) u.place;
          cheap = rw (problem-is m.sheet) (omega (arith, priced m.sheet is));
        }

        module _ (le : x ≤ d.value) where
          cheap : price_at p (reached s r) (action_at (actions_at p i) n) ≤ value_at (reached s r) i
          cheap = omega (arith, w.now, priced m.sheet is, held m.leads)

          ran : to i (reached s₀ r₀) ≡ actions_from p budget to i (actions_at p i) n (reached s r)
          ran = m.run (omega (arith, u.exists))

          -- the action is tried, with the answer v
          module _ {s' : List ℕ} {v : Visited} (g : Did t (problem_of s) s' v (trying (problem_of s) budget i n (reached s r))) where
            own : Did t p s' v (trying p budget i n (reached s r))
            own = rw (problem-is m.sheet) at g

            tried : trying p budget i n (reached s r) ≡ visit_of (cells_of s') v
            tried = sym own.said

          -- it did not fail
          pub ends-so : {s' : List ℕ} (v : Visited) → Did t (problem_of s) s' v (trying (problem_of s) budget i n (reached s r)) →
              ((r' : ℕ) → v ≡ Failure r' → ⊥) → Did t p s' v (visiting p budget i (reached s₀ r₀))
          ends-so (Success r') g other =
              did (own g).sheet (sym (ran ∙ action-passes p budget to i (actions_at p i) n _ _ u.exists cheap (tried g)))
          ends-so (Failure r') g other = absurd (other r' refl)
          ends-so (Halt r') g other =
              did (own g).sheet (sym (ran ∙ action-halts p budget to i (actions_at p i) n _ _ u.exists cheap (tried g)))

          -- abandoned: the action is priced at once, at y, and the next stands at o'
          module _ {s' : List ℕ} {r' : ℕ} (g : Did t (problem_of s) s' (Failure r') (trying (problem_of s) budget i n (reached s r))) where
            since : Leads p budget (suc i) (reached s r) (reached s' r')
            since =
                abandoned-leads p w.formed budget i n (actions_at p i) (is-decision (node_at p i) w.tag) _ _ m.leads.ready cheap
                (tried g)

            pub abandons : {y : ℕ} → y ≡ q (problem_of s').kind (value_of (cells_of s')) (action_read (drop o s')) →
                {o' : ℕ} → o' ≡ o + 7 + 2 * length (action_read (drop o s)).successors →
                {kept' : Kept} → (kept'.fresh ≡ y) × (kept'.old ≡ min kept.old kept.fresh) →
                Acting t p budget i s₀ r₀ s' r' (n + 1) o' kept'
            abandons anew next now-kept = record {
              sheet = (own g).sheet;
              leads = then m.leads since;
              upto = omega (arith, u.exists);
              place = turn-next u m.sheet _ next;
              first = λ z. absurd (omega arith);
              run = λ has.
                  m.run has ∙ rw add-one (action-fails p budget to i (actions_at p i) n _ _ u.exists cheap (tried g));
              keeps =
                  keeps-abandoned m.keeps _ (λ k. q-mono p.kind _ _ (action_at (actions_at p i) k) (λ f z. since.rises f))
                  (priced (own g).sheet anew) now-kept;
            }

        -- skipped: nothing changes but what is kept
        pub skips : d.value < x → {o' : ℕ} → o' ≡ o + 7 + 2 * length (action_read (drop o s)).successors →
            {kept' : Kept} → (kept'.fresh ≡ min kept.fresh x) × (kept'.old ≡ kept.old) →
            Acting t p budget i s₀ r₀ s r (n + 1) o' kept'
        skips lt next now-kept =
            record {
              sheet = m.sheet;
              leads = m.leads;
              upto = omega (arith, u.exists);
              place = turn-next u m.sheet _ next;
              first = λ z. absurd (omega arith);
              run = λ has.
                  m.run has ∙ rw add-one (action-skipped p budget to i (actions_at p i) n (reached s r) (reached s r) u.exists
                  (omega (arith, w.now, priced m.sheet is, held m.leads)));
              keeps = keeps-skipped m.keeps (priced m.sheet is) now-kept;
            }
