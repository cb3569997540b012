-- A settled sheet can be listed, and what `list` leaves.
use Prim.Native.Nat.{ℕ, zero, suc, ◌<◌, ◌≤◌}
use mathlib.Core.Path.{◌≡◌, refl, ap, sym, ◌∙◌}
use mathlib.Core.List.{List, []}
use native.Mathlib.Omega.{arith}
use native.Mathlib.Nat.{zero-add}
use borrow.Author.Tests.{le-leb, lt-leb}
use lib.ListN.{length}
use Rattle.std.specs.Prelude.{Option, Some, None as Nothing}
use Rattle.model.specs.declared.Answer.{Answer}
use Rattle.model.specs.declared.Outcome.{Outcome}
use Rattle.model.specs.declared.Outcome.TheVariants.{Refused, Settled, Over, Stopped, None}
use Rattle.model.specs.Format.{Bytes}
use Rattle.model.specs.Read.{problem_of, cells_of}
use Rattle.model.specs.Questions.{refusal}
use Rattle.model.specs.Policy.{Closed, written as written_plan}
use Rattle.model.specs.Report.{number, largest, on_refusal, answer_to, bytes_after, index_table, table_after, table_under}
use Rattle.sheet.specs.Sheet.{Sheet}
use Rattle.sheet.proofs.Laws.{own, indexed}
use Rattle.theory.proofs.Accepted.{asked-problem}
use Rattle.theory.proofs.Sheets.{Stands, accepted-stands, stands-problem, unrefused}
use Rattle.theory.proofs.Called.{answer-refused, Called, call-does}
use Rattle.theory.proofs.Demands.{demand2}
use Rattle.ldfs.specs.Made.{Solved}
use Rattle.listing.specs.declared.Listing.{Listing}
use Rattle.listing.specs.Listing.{line_one, plan_of, listing, enough, listed_as, sheet_listed, table_listed, text_listed}
use Rattle.sheet.specs.declared.put.Page.{Page}
use Rattle.sheet.specs.Put.{Appended}
use Rattle.listing.specs.Put.{Listable}
use Rattle.layout.proofs.Wrote.{wrote-length}
use Rattle.sheet.proofs.Putting.{appended_none, appended-behind}

-- what a settled call leaves: a sheet with its index, which can be listed
pub record Left (s t : List ℕ) : Type 0 where
  pub sheet : Sheet s t (problem_of s) (cells_of s)
  pub listable : Listable s

-- a sheet and its index after a call that is not refused
module _ (s t : List ℕ) (budget : ℕ) (bytes : Bytes s) where
  unrefused-worked : refusal s (length t) budget ≡ 0 →
      Closed (problem_of s) (written_plan (cells_of (bytes_after s (length t) budget))) (problem_of s).start →
      Left (bytes_after s (length t) budget) (table_after s t budget)
  unfolding table_under on_refusal index_table
  unrefused-worked e complete = record {
    sheet = own (indexed _ h.is h.asked.shaped filled);
    listable = record {
      formed = rw (stands-problem _ _ _ h) (asked-problem _ _ h.asked);
      complete = rw (stands-problem _ _ _ h) complete;
    };
  }
    where
      filled : table_after s t budget ≡ index_table (problem_of s) (length t)
      filled = rw e

      called : Called s (problem_of s) (cells_of s) (length t) budget
      called = call-does s (problem_of s) (cells_of s) (accepted-stands s bytes (unrefused s (length t) budget e)) (length t) budget

      h : Stands (bytes_after s (length t) budget) (problem_of s) called.next
      h = called.stands

  settled-worked : (answer_to s (length t) budget).outcome ≡ Settled → Left (bytes_after s (length t) budget) (table_after s t budget)
  settled-worked e = go (refusal s (length t) budget) refl
    where
      go : (n : ℕ) → refusal s (length t) budget ≡ n → Left (bytes_after s (length t) budget) (table_after s t budget)
      go zero r = unrefused-worked r ((demand2 s bytes (length t) budget).settled (ap number e)).best.complete
      go (suc n) r = let a = answer-refused s (length t) budget n r in let z : ◌≡◌ {A = ℕ} 0 1 = cc in absurd (omega arith)

  -- and as `solve` left them
  pub solved-worked : (a : Answer) (s' t' : List ℕ) → Solved s t budget a s' t' → a.outcome ≡ Settled →
      Left s' t'
  solved-worked a s' t' h e = rw (h.1.0, h.1.1) (settled-worked (sym (ap (λ (x : Answer). x.outcome) h.0) ∙ e))

-- where a call is not settled, nothing follows line one
module _ {p q : Page} {x : List ℕ} (w : Appended p q x) (s : List ℕ) where
  nothing : Appended q q []
  nothing = appended_none q (omega (arith, w.wrote.room, w.wrote.behind, wrote-length w.wrote))

  pub no-plan : (o : Outcome) → (o ≡ Settled → ⊥) → Appended q q (plan_of o s)
  no-plan (Refused n) ne = nothing
  no-plan Settled ne = absurd (ne refl)
  no-plan Over ne = nothing
  no-plan Stopped ne = nothing
  no-plan None ne = nothing

-- what `list` promises of its answer, of the sheet, of the table and of the buffer
abbrev Leaves : List ℕ → List ℕ → List ℕ → Option Listing → List ℕ → List ℕ → List ℕ → Type 0
Leaves s t out r s' t' out' =
    (r ≡ listed_as s t out) × ((s' ≡ sheet_listed s t out) × ((t' ≡ table_listed s t out) × (out' ≡ text_listed s t out)))

module _ (s t out : List ℕ) where
  pub too_short : length out < enough → Leaves s t out Nothing s t out
  unfolding listed_as sheet_listed table_listed text_listed
  too_short h = rw (lt-leb enough (length out) h) (refl, (refl, (refl, refl)))

  pub written : enough ≤ length out → (a : Answer) (s' t' : List ℕ) → Solved s t largest a s' t' →
      {p q r : Page} → p.out.now ≡ out → p.end ≡ 0 → Appended p q (line_one a) → Appended q r (plan_of a.outcome s') →
      Leaves s t out (Some (record { length = r.end; outcome = a.outcome })) s' t' r.out.now
  unfolding listed_as sheet_listed table_listed text_listed listing
  written long a s' t' h {p} {q} {r} is first v w =
      let u = (appended-behind v w).wrote in
      rw (le-leb enough (length out) long, ← h.0, ← h.1.0, ← h.1.1) (
        ap (λ (n : ℕ). Some (record { length = n; outcome = a.outcome })) (rw first at u.behind ∙ zero-add _),
        (refl, (refl, rw (is, first, zero-add) at u.bytes)),
      )
