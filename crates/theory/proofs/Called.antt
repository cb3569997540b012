-- One call on an accepted sheet, and a list of calls: what the bytes keep, and what is reported.
use Prim.Native.Nat.{ℕ, zero, suc, ◌+◌, ◌<◌, ◌≤◌}
use mathlib.Core.Path.{◌≡◌, refl, ◌∙◌, subst}
use mathlib.Core.Bool.{Bool, true, false}
use mathlib.Core.List.{List, [], ◌∷◌}
use native.Mathlib.Omega.{arith}
use Rattle.model.specs.Problem.{Node, terminal, decision, Problem, Cell, states, node_at, cell_of, value_of, solved}
use Rattle.model.specs.Format.{Bytes, write}
use Rattle.model.specs.Read.{problem_of, cells_of}
use Rattle.model.specs.Limits.{ceiling, no_plan}
use Rattle.model.specs.Questions.{question2, questions, refusal, First}
use Rattle.model.specs.Ldfs.{Passes, work}
use Rattle.model.specs.Optimal.{sum_below}
use Rattle.model.specs.Report.{cells_after, refused, finished, on_refusal, answer_to, answer_under, bytes_after, bytes_under}
use Rattle.model.specs.Calls.{Call, call_of, call_on, Calls, none, one, left, raises_in}
use Rattle.layout.specs.Shape.{NodeShaped}
use Rattle.layout.proofs.Shapes.{node-shaped}
use Rattle.layout.proofs.Places.{write-length}
use Rattle.layout.proofs.Stay.{FitsField, write_bytes}
use Rattle.theory.specs.Consistent.{WellFormed, Consistent}
use Rattle.theory.proofs.Basics.{clash}
use Rattle.theory.proofs.Refusals.{first-refuses, unrefused-yes}
use Rattle.theory.proofs.Leads.{solved-of}
use Rattle.theory.proofs.Work.{Worked, work-does}
use Rattle.theory.proofs.Accepted.{asked-problem, asked-cells, still-asked}
use Rattle.theory.proofs.Sheets.{Stands, stands-problem, stands-cells}

-- the work of a call on the sheet s
abbrev pub work_on : List ℕ → ℕ → Passes
work_on s budget = work (problem_of s) (cells_of s) budget

-- What a call answers and leaves, by its refusal.
module _ (s : List ℕ) (entries budget : ℕ) where
  pub answer-worked : refusal s entries budget ≡ 0 → answer_to s entries budget ≡ finished (problem_of s) budget (work_on s budget)
  unfolding answer_under on_refusal
  answer-worked e = rw e

  pub bytes-worked : refusal s entries budget ≡ 0 → bytes_after s entries budget ≡ write (problem_of s) (cells_after (work_on s budget))
  unfolding bytes_under on_refusal
  bytes-worked e = rw e

  pub answer-refused : (n : ℕ) → refusal s entries budget ≡ suc n → answer_to s entries budget ≡ refused budget (suc n)
  unfolding answer_under on_refusal
  answer-refused n e = rw e

  -- where question k is the first that is answered no, the answer is the refusal k
  pub answer-first : (k : ℕ) → First (questions s entries budget) k → answer_to s entries budget ≡ refused budget k
  answer-first zero f = clash (unrefused-yes s entries budget (first-refuses s entries budget 0 f) f.behind) f.no
  answer-first (suc n) f = answer-refused n (first-refuses s entries budget (suc n) f)

  pub bytes-refused : (n : ℕ) → refusal s entries budget ≡ suc n → bytes_after s entries budget ≡ s
  unfolding bytes_under on_refusal
  bytes-refused n e = rw e

  -- the answer has the budget that the call was given
  pub budget-given : (answer_to s entries budget).budget ≡ budget
  budget-given = go (refusal s entries budget) refl
    where
      go : (n : ℕ) → refusal s entries budget ≡ n → (answer_to s entries budget).budget ≡ budget
      go zero e = rw (answer-worked e)
      go (suc n) e = rw (answer-refused n e)

  -- the call as its caller sees it
  pub call-worked : refusal s entries budget ≡ 0 →
      call_on s entries budget ≡ call_of (finished (problem_of s) budget (work_on s budget)) (bytes_after s entries budget)
  call-worked e = rw (answer-worked e)

  pub call-refused : (n : ℕ) → refusal s entries budget ≡ suc n → call_on s entries budget ≡ call_of (refused budget (suc n)) s
  call-refused n e = rw (answer-refused n e, bytes-refused n e)

-- a call that was made and is what the questions and the procedure give, before others
pub made-call : {s : List ℕ} {c : Call} {more : List Call} (entries budget : ℕ) →
    c ≡ call_on s entries budget → Calls c.bytes more → Calls s (c ∷ more)
made-call entries budget e made = rw e (one entries budget (rw e at made))

-- from some cells to others by so many raises
pub record Kept (p : Problem) (cells cells' : List Cell) (raises : ℕ) : Type 0 where
  pub rises : (s : ℕ) → value_of cells s ≤ value_of cells' s
  pub keeps : (s : ℕ) → solved (cell_of cells s) ≡ true → cell_of cells' s ≡ cell_of cells s
  pub paid : raises + sum_below (states p) (value_of cells) ≤ sum_below (states p) (value_of cells')

kept-all : (p : Problem) (cells : List Cell) → Kept p cells cells 0
kept-all p cells = record { rises = λ s. omega arith; keeps = λ s e. refl; paid = omega arith }

kept_then : {p : Problem} {a b c : List Cell} {m n : ℕ} → Kept p a b m → Kept p b c n → Kept p a c (m + n)
kept_then f g = record {
  rises = λ s. omega (arith, f.rises s, g.rises s);
  keeps = λ s e. g.keeps s (solved-of (f.keeps s e) ∙ e) ∙ f.keeps s e;
  paid = omega (arith, f.paid, g.paid);
}

-- what one call does to a sheet that stands for p and cells
pub record Called (s : List ℕ) (p : Problem) (cells : List Cell) (entries budget : ℕ) : Type 0 where
  pub next : List Cell
  pub stands : Stands (bytes_after s entries budget) p next
  pub kept : Kept p cells next (answer_to s entries budget).raises
  pub spent : refusal s entries budget ≡ 0 → solved (cell_of next p.start) ≡ false → (answer_to s entries budget).raises ≡ budget
  pub few : (answer_to s entries budget).passes ≤ suc (answer_to s entries budget).raises

module _ (s : List ℕ) (p : Problem) (cells : List Cell) (h : Stands s p cells) where
  wf : WellFormed p
  wf = asked-problem p cells h.asked

  -- a chosen action's number fits a byte
  chosen-fits : (cells' : List Cell) → Consistent p cells' → (t : ℕ) → (cell_of cells' t).chosen < 256
  chosen-fits cells' g t = go (node_at p t) refl (solved (cell_of cells' t)) refl
    where
      go : (n : Node) → node_at p t ≡ n → (b : Bool) → solved (cell_of cells' t) ≡ b → (cell_of cells' t).chosen < 256
      go n e false o = omega (arith, (g.sound t).unchosen o)
      go (terminal cost) e true o = omega (arith, (g.sound t).endless cost (rw e))
      go (decision form []) e true o = omega (arith, (g.sound t).endless no_plan (rw e))
      go (decision form (a ∷ more)) e true o =
          let few = (subst NodeShaped e (node-shaped p.nodes h.asked.shaped.nodes t)).0 in
          omega (arith, ((g.sound t).settles (a ∷ more) e (omega arith) o).exists, few)

  -- consistent cells of the same problem, written, stand for it
  pub rewritten : (cells' : List Cell) → Consistent p cells' → Stands (write p cells') p cells'
  unfolding question2 ceiling
  rewritten cells' g = record {
    is = refl;
    bytes = write_bytes p cells cells' fits (subst Bytes h.is h.bytes);
    size = rw (write-length p cells' cells, ← h.is) h.size;
    asked = still-asked p cells cells' h.asked g;
  }
    where
      fits : (t : ℕ) → FitsField (cell_of cells' t)
      fits t = record {
        value = omega (arith, (g.sound t).small);
        mark = omega (arith, (g.sound t).mark);
        chosen = chosen-fits cells' g t;
      }

  -- the work of one call, and what the bytes stand for after a call that is not refused
  pub work-done : (budget : ℕ) → Worked p cells budget (work p cells budget)
  work-done budget = work-does p wf cells budget (asked-cells p cells h.asked)

  pub worked-stands : (entries budget : ℕ) → refusal s entries budget ≡ 0 →
      Stands (bytes_after s entries budget) p (cells_after (work p cells budget))
  worked-stands entries budget e =
      rw (bytes-worked s entries budget e, stands-problem s p cells h, stands-cells s p cells h)
      (rewritten _ (work-done budget).consistent)

  pub call-does : (entries budget : ℕ) → Called s p cells entries budget
  call-does entries budget = go (refusal s entries budget) refl
    where
      go : (n : ℕ) → refusal s entries budget ≡ n → Called s p cells entries budget
      go zero e =
          let r = work-done budget in
          let a : answer_to s entries budget ≡ finished p budget (work p cells budget) =
          rw (answer-worked s entries budget e, stands-problem s p cells h, stands-cells s p cells h) in
          record {
            next = cells_after (work p cells budget);
            stands = worked-stands entries budget e;
            kept = rw a (record { rises = r.rises; keeps = r.keeps; paid = r.paid });
            spent = λ _ o. rw a (r.spent o);
            few = rw a r.few;
          }
      go (suc n) e =
          let a = answer-refused s entries budget n e in
          record {
            next = cells;
            stands = rw (bytes-refused s entries budget n e) h;
            kept = rw a (kept-all p cells);
            spent = λ z. absurd (omega arith);
            few = rw a (omega arith);
          }

-- what a list of calls does to it
pub record CalledAll (s : List ℕ) (p : Problem) (cells : List Cell) (calls : List Call) : Type 0 where
  pub last : List Cell
  pub stands : Stands (left s calls) p last
  pub kept : Kept p cells last (raises_in calls)

pub calls-do : {s : List ℕ} {calls : List Call} → Calls s calls → (p : Problem) (cells : List Cell) → Stands s p cells →
    CalledAll s p cells calls
unfolding left raises_in
calls-do none p cells h = record { last = cells; stands = h; kept = kept-all p cells }
calls-do (one {s} {more} entries budget made) p cells h =
    let first = call-does s p cells h entries budget in
    let rest = calls-do made p first.next first.stands in
    record { last = rest.last; stands = rest.stands; kept = kept_then first.kept rest.kept }
