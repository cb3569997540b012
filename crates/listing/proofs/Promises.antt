-- The promises of a listing: its price is the least cost, the stages that it has lines for are those that the plan reaches, each has one,
-- the finding that a line names is the dearest, and on a worst sheet the run along those findings costs the price.
use Prim.Native.Nat.{ℕ, zero, suc, ◌<◌, ◌≤◌}
use mathlib.Core.Path.{◌≡◌, refl, sym, subst}
use mathlib.Core.Bool.{true}
use mathlib.Core.Logic.{⊎_elim}
use mathlib.Core.Option.{some}
use mathlib.Core.List.{List, ◌++◌, append-nil}
use native.Mathlib.Omega.{arith}
use native.Mathlib.Nat.{eq-or-lt_of_le}
use borrow.Author.Tests.{eq-eqb}
use Rattle.model.specs.declared.Answer.{Answer}
use Rattle.model.proofs.TestLaws.{true-also}
use Rattle.model.specs.Problem.{worst, Action, Form, Node, decision, Problem, Cell, states, node_at, action_at, cell_of, value_of}
use Rattle.model.specs.Problem.{◌∈◌}
use Rattle.model.specs.Format.{Bytes}
use Rattle.model.specs.Read.{problem_of, cells_of}
use Rattle.model.specs.Limits.{ceiling, no_plan}
use Rattle.model.specs.Questions.{questions, First}
use Rattle.model.specs.Policy.{Reach, arrived, onward, written}
use Rattle.model.specs.Report.{number, largest, answer_to, bytes_after}
use Rattle.model.specs.QValue.{Dearest}
use Rattle.model.specs.Demands.{Accepted, start_cell, start_cost, NoPlan, PlansAbove}
use Rattle.theory.specs.Consistent.{WellFormed, Consistent}
use Rattle.theory.proofs.Sheets.{accepted-stands}
use Rattle.theory.proofs.Called.{answer-first}
use Rattle.theory.proofs.Promises.{problem-of, cells-of, still-a-sheet, raises-small}
use Rattle.theory.proofs.Outcomes.{numbered}
use Rattle.theory.proofs.Demands.{demand2, worked-accepted}
use Rattle.listing.specs.Text.{ascii}
use Rattle.listing.specs.Listing.{field, chosen_successors_of, chosen_successors, dearest_chosen, reached_below, reached}
use Rattle.listing.specs.Listing.{state_lines, EachOnce, Run, listing}
use Rattle.listing.proofs.Planned.{or_left, or_right, in-listed, reached-reach, reached-chooses}
use Rattle.listing.proofs.Once.{each-once}
use Rattle.listing.proofs.Runs.{run_only, names-dearest, runs_on}

-- stage t has a line exactly where the plan that is written in the cells reaches it from the start
abbrev pub ListedAsReached : Problem → List Cell → ℕ → Type 0
ListedAsReached p cells t =
    (reached p cells t ≡ true → Reach p (written cells) p.start t)
    × (Reach p (written cells) p.start t → reached p cells t ≡ true)

module _ (p : Problem) (cells : List Cell) where
  -- what is reached stays so when more stages are looked at
  more : (n t : ℕ) → reached_below p cells n t ≡ true → (m : ℕ) → n ≤ m → reached_below p cells m t ≡ true
  unfolding reached_below
  more n t h zero le = let e : n ≡ 0 = omega arith in rw e at h
  more n t h (suc m) le =
      ⊎_elim (λ e. rw e at h) (λ l. or_left (reached_below p cells m t) _ (more n t h m (omega arith))) (eq-or-lt_of_le le)

  module _ (wf : WellFormed p) where
    onwards : {s t : ℕ} → Reach p (written cells) s t → reached p cells s ≡ true → reached p cells t ≡ true
    unfolding reached_below
    onwards arrived h = h
    onwards (onward {s} {u} {t} {i} {acts} e c v r) h = onwards r (more (suc s) u next u later)
      where
        m : u ∈ (action_at acts (cell_of cells s).chosen).successors
        m = let same : (cell_of cells s).chosen ≡ i = cc in rw same v

        later : s < u
        later = (wf.forward s (cell_of cells s).chosen u acts e m).0

        found : u ∈ chosen_successors p cells s
        found = subst (λ (n : Node). u ∈ chosen_successors_of n (cell_of cells s)) (sym e) m

        next : reached_below p cells (suc s) u ≡ true
        next = or_right (reached_below p cells s u) _ (true-also _ _ h (in-listed found))

    -- the lines are of the stages that the plan reaches
    reached-is : (t : ℕ) → ListedAsReached p cells t
    unfolding reached_below
    reached-is t =
        (reached-reach p cells t t, λ r. onwards r (more 0 p.start (eq-eqb p.start p.start refl) p.start (omega arith)))

    -- what the plan reaches from a stage is a stage, and so has a line where it is reached from the start
    reach-within : {s t : ℕ} → Reach p (written cells) s t → s < states p → t < states p
    reach-within arrived lt = lt
    reach-within (onward e i m r) lt = reach-within r (wf.forward _ _ _ _ e m).1

    has-line : {t : ℕ} → Reach p (written cells) p.start t → (t < states p) × (reached p cells t ≡ true)
    has-line {t} r = (reach-within r wf.starts, (reached-is t).1 r)

-- What `price` prints, with a table of any number of entries.
-- refused: the number of the first question that is answered no
pub refused-prints : (s : List ℕ) (entries k : ℕ) → First (questions s entries largest) k →
    listing s entries ≡ field (ascii "refused ") k ++ ascii "\n"
unfolding listing
refused-prints s entries k f = rw (answer-first s entries largest k f, append-nil)

-- of any bytes, by the number of the outcome; demand 1 says that these are all
module _ (s : List ℕ) (bytes : Bytes s) (entries : ℕ) where
  abbrev answer : Answer
  answer = answer_to s entries largest

  abbrev after : List ℕ
  after = bytes_after s entries largest

  -- line one of a call that worked: the outcome's word, a price, and its passes and raises
  abbrev line : List ℕ → ℕ → List ℕ
  line word price = field word price ++ (field (ascii " ") answer.passes ++ (field (ascii " ") answer.raises ++ ascii "\n"))

  -- what a settled call was on, and what it left
  was-accepted : number answer.outcome ≡ 100 → Accepted s
  was-accepted e = worked-accepted s bytes entries largest (omega arith)

  formed : number answer.outcome ≡ 100 → WellFormed (problem_of s)
  formed e = problem-of (accepted-stands s bytes (was-accepted e).yes)

  consistent : number answer.outcome ≡ 100 → Consistent (problem_of s) (cells_of after)
  consistent e =
      let (left, same) = still-a-sheet s (was-accepted e) entries largest in
      subst (λ (p : Problem). Consistent p (cells_of after)) same (cells-of (accepted-stands after left.bytes left.yes))

  -- settled: the least cost of the start, and then a line for each stage that the plan in the sheet reaches
  pub settled-prints : number answer.outcome ≡ 100 →
      (start_cost s ≡ some answer.price)
      × (listing s entries ≡ line (ascii "settled ") answer.price ++ state_lines (problem_of s) (cells_of after) (states (problem_of s)))
      × ((t : ℕ) → ListedAsReached (problem_of s) (cells_of after) t)
  unfolding listing
  settled-prints e = (
    ((demand2 s bytes entries largest).settled e).price,
    rw ((numbered s entries largest).settled e, (still-a-sheet s (was-accepted e) entries largest).1),
    reached-is (problem_of s) (cells_of after) (formed e),
  )

  -- S10.3: each of those stages has one line, however often it is listed, and the lines ascend
  pub lines-once : EachOnce (problem_of s) (cells_of after) (states (problem_of s))
  lines-once = each-once (problem_of s) (cells_of after) (states (problem_of s))

  -- S10.3: what a junction's line names by `by` is the dearest finding of its chosen check (S2.9), by the values as work left them
  pub line-names : number answer.outcome ≡ 100 → (t : ℕ) {form : Form} (acts : List Action) →
      node_at (problem_of s) t ≡ decision form acts →
      reached (problem_of s) (cells_of after) t ≡ true →
      Dearest (value_of (cells_of after)) (action_at acts (cell_of (cells_of after) t).chosen).successors
      (dearest_chosen (problem_of s) (cells_of after) t)
  line-names e t acts node has =
      let complete = ((demand2 s bytes entries largest).settled e).best.complete in
      names-dearest (problem_of s) (cells_of after) (formed e) (consistent e) t acts node
      (reached-chooses (problem_of s) (cells_of after) complete t t has _ acts node)

  -- S10.9: on a worst sheet the run that begins at the start and goes on by `by` comes to an ending, every stage of it has a line, its
  -- checks and that ending cost the price together, and there is no other
  pub run-costs : number answer.outcome ≡ 100 → (problem_of s).kind ≡ worst →
      (on : List ℕ) × Run (problem_of s) (cells_of after) (problem_of s).start on answer.price
      × ((t : ℕ) → t ∈ on → (t < states (problem_of s)) × (reached (problem_of s) (cells_of after) t ≡ true))
      × ((also-on : List ℕ) (c : ℕ) → Run (problem_of s) (cells_of after) (problem_of s).start also-on c →
      (also-on ≡ on) × (c ≡ answer.price))
  run-costs e kind =
      let demanded = demand2 s bytes entries largest in
      let d = demanded.settled e in
      let value : (start_cell s after).value ≡ answer.price = sym (demanded.price_is_value (omega arith)) in
      let (on, run, reach) = runs_on (problem_of s) (cells_of after) (formed e) (consistent e) kind (problem_of s).start d.marked
      (omega (arith, d.below)) in
      let costs = subst (Run (problem_of s) (cells_of after) (problem_of s).start on) value run in
      (on, costs, (λ t m. has-line (problem_of s) (cells_of after) (formed e) (reach t m)), λ also-on c other. run_only costs other)

  -- over: the ceiling; there are complete plans from the start, and all cost that or more
  pub over-prints : number answer.outcome ≡ 101 → (listing s entries ≡ line (ascii "over ") ceiling) × PlansAbove (problem_of s)
  unfolding listing
  over-prints e =
      let d = (demand2 s bytes entries largest).over e in
      (rw ((numbered s entries largest).over e, d.price) (append-nil (line (ascii "over ") ceiling)), d.plans)

  -- none: 1,000,000,001, and nothing follows; there is no complete plan from the start
  pub none-prints : number answer.outcome ≡ 103 → (listing s entries ≡ line (ascii "none ") no_plan) × NoPlan (problem_of s)
  unfolding listing
  none-prints e =
      let d = (demand2 s bytes entries largest).none e in
      (rw ((numbered s entries largest).none e, d.price) (append-nil (line (ascii "none ") no_plan)), d.no_complete_plan)

  -- it never prints `stopped`
  pub never-stopped : number answer.outcome ≡ 102 → ⊥
  never-stopped e =
      let d = demand2 s bytes entries largest in omega (arith, (d.stopped e).spent, d.given, raises-small s bytes entries largest)
