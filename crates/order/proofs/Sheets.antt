-- Bytes: an accepted draft becomes an accepted sheet of the same length, and comes back exactly.
use Prim.Native.Nat.{ℕ, ◌-◌, ◌<◌, ◌≤◌}
use mathlib.Core.Path.{◌≡◌, refl, sym, ap, ◌∙◌}
use mathlib.Core.Bool.{true}
use mathlib.Core.List.{List, ◌∷◌, ◌++◌}
use native.Mathlib.Omega.{arith}
use borrow.Author.Tests.{eqb-true, leb-true, le-leb}
use lib.ListN.{length, take, drop, replicate, length-append, length-replicate}
use lib.Seq.{take_at}
use Rattle.model.proofs.QuestionLaws.{AllYes, none-no, all_yes}
use Rattle.model.proofs.TestLaws.{all_true, true-all, true-every}
use Rattle.model.specs.Calls.{Call, Calls}
use Rattle.model.specs.Demands.{Accepted, Demand3}
use Rattle.model.specs.Format.{Bytes, head_tag, draft_tag, write}
use Rattle.model.specs.Limits.{max_states}
use Rattle.model.specs.Problem.{Problem, Cell, states}
use Rattle.model.specs.Questions.{question2, question3, question4, question10, question5, question6, question6_draft, question7, question8}
use Rattle.model.specs.Questions.{question}
use Rattle.model.specs.Read.{problem_of, cells_of}
use Rattle.model.specs.Report.{on_refusal}
use Rattle.layout.proofs.Back.{problem-back as written-problem, cells-back as written-cells}
use Rattle.layout.proofs.Same.{read-writes, read_head, read-shaped}
use Rattle.layout.proofs.Shapes.{draft-inside, six-inside}
use Rattle.layout.specs.Shape.{Shaped, Inside}
use Rattle.theory.proofs.Demands.{demand3}
use Rattle.theory.proofs.Sheets.{Stands, stands-yes, stands-accepted}
use Rattle.theory.specs.Asked.{Asked}
use Rattle.order.proofs.Back.{problem-back, cells-back}
use Rattle.order.proofs.Consistent.{ten-moved, five-moved, seven-moved, eight-moved}
use Rattle.order.proofs.Costs.{moved-states}
use Rattle.order.proofs.Counting.{times-among}
use Rattle.order.proofs.Identity.{in-order-identity}
use Rattle.order.proofs.Ordered.{six-rearranged}
use Rattle.order.proofs.Placing.{order-perm, all_placed}
use Rattle.order.proofs.Plans.{costs-moved}
use Rattle.order.proofs.Shaped.{shaped-moved}
use Rattle.order.proofs.Sizes.{moved-size}
use Rattle.order.proofs.Unmoved.{from_at, bytes-still}
use Rattle.layout.proofs.Written.{written-bytes}
use Rattle.order.specs.Asking.{question1_lent, question11, question11_back, draft_questions, back_questions, rearrange_refusal}
use Rattle.order.specs.Asking.{restore_refusal, rearranged_bytes, restored_bytes, rearranged_output, rearranged_list, restored_output}
use Rattle.order.specs.Claims.{Perm, SameCosts}
use Rattle.order.specs.Moved.{at, moved, moved_cells, rearranged, rearranged_cells}
use Rattle.order.specs.Order.{order, inverse, lists}

-- what an accepted draft is: a yes to each question, by its number
pub record Draft (s : List ℕ) : Type 0 where
  pub two : question2 s ≡ true
  pub three : question3 draft_tag max_states s ≡ true
  pub four : question4 s ≡ true
  pub ten : question10 (problem_of s) ≡ true
  pub five : question5 (problem_of s) (cells_of s) ≡ true
  pub six : question6_draft (problem_of s) ≡ true
  pub full : length (order (problem_of s)) ≡ states (problem_of s)
  pub seven : question7 (problem_of s) (cells_of s) ≡ true
  pub eight : question8 (problem_of s) (cells_of s) ≡ true

pub draft-by-number : (s : List ℕ) → AllYes (draft_questions s) → Draft s
unfolding question11
draft-by-number s (two, (three, (four, (ten, (five, (six, (eleven, (seven, (eight, _))))))))) =
    record {
      two = two;
      three = three;
      four = four;
      ten = ten;
      five = five;
      six = six;
      full = eqb-true _ _ eleven;
      seven = seven;
      eight = eight;
    }

-- the draft of a call that is not refused is accepted, and what it was lent is long enough
pub unrefused-draft : (s : List ℕ) (entries output listed : ℕ) → rearrange_refusal s entries output listed ≡ 0 →
    (length s ≤ output) × (max_states ≤ listed) × Draft s
unfolding rearrange_refusal question1_lent
unrefused-draft s entries output listed h =
    let (one, answers) = none-no (question 1 (λ _. question1_lent s entries output listed) ∷ draft_questions s) refl h in
    let (_, (long, (many, _))) = all_true _ one in
    (leb-true _ _ long, leb-true _ _ many, draft-by-number s answers)

module _ (s : List ℕ) (byte : Bytes s) (d : Draft s) where
  abbrev p : Problem
  p = problem_of s

  abbrev cells : List Cell
  cells = cells_of s

  abbrev from : List ℕ
  from = order p

  abbrev to : List ℕ
  to = inverse from

  h : Perm (states p) from to
  h = order-perm p d.full

  inside : Inside p
  inside = draft-inside p d.six

  -- what the bytes are written from
  is : s ≡ write p cells
  is = read-writes draft_tag s byte d.three d.four

  tagged : p.head ≡ draft_tag
  tagged = read_head draft_tag s byte d.three d.four

  shaped : Shaped p cells
  shaped = read-shaped draft_tag s byte d.three d.four

  -- the rearranged problem and cells get a yes to questions 3 to 8 and 10
  pub draft-asked : Asked (rearranged p) (rearranged_cells p cells)
  unfolding moved
  draft-asked = record {
    ordinary = refl;
    shaped = shaped-moved head_tag p from to h cells shaped;
    ten = ten-moved head_tag p from to h ∙ d.ten;
    five = five-moved head_tag p from to h cells ∙ d.five;
    six = six-rearranged p d.six d.full;
    seven = seven-moved head_tag p from to h cells inside ∙ d.seven;
    eight = eight-moved head_tag p from to h cells inside ∙ d.eight;
  }

  pub new-problem : problem_of (rearranged_bytes s) ≡ rearranged p
  new-problem = written-problem (rearranged p) (rearranged_cells p cells) draft-asked.shaped

  pub new-cells : cells_of (rearranged_bytes s) ≡ rearranged_cells p cells
  new-cells = written-cells (rearranged p) (rearranged_cells p cells) draft-asked.shaped

  -- as many bytes
  pub new-length : length (rearranged_bytes s) ≡ length s
  new-length = moved-size head_tag p from to h cells (rearranged_cells p cells) ∙ ap length (sym is)

  -- the new sheet stands for the rearranged problem
  pub new-stands : Stands (rearranged_bytes s) (rearranged p) (rearranged_cells p cells)
  unfolding question2
  new-stands = record {
    is = refl;
    bytes = new-bytes;
    size = rw new-length d.two;
    asked = draft-asked;
  }
    where
      new-bytes : Bytes (rearranged_bytes s)
      new-bytes =
          let asked = draft-asked in
          written-bytes (rearranged p) (rearranged_cells p cells) (rw asked.ordinary (omega arith)) asked.shaped asked.ten
          asked.five (six-inside (rearranged p) asked.six)

  -- so it is accepted, and demand 3 holds of it, whatever calls follow
  pub new-sheet : Accepted (rearranged_bytes s)
  new-sheet = record { bytes = new-stands.bytes; yes = stands-accepted _ _ _ new-stands }

  pub new-demand : (calls : List Call) → Calls (rearranged_bytes s) calls → Demand3 (rearranged_bytes s) calls
  new-demand calls made = demand3 new-sheet made

  -- every stage keeps its least cost, and plans go over, by the bytes
  pub new-costs : SameCosts p (problem_of (rearranged_bytes s)) from to
  new-costs = rw new-problem
      (costs-moved head_tag p from to h d.six shaped.start inside (six-inside (rearranged p) draft-asked.six))

  -- where findings are above their junctions already, only the head's tag changes
  pub new-unmoved : question6 p ≡ true → rearranged_bytes s ≡ head_tag ∷ drop 1 s
  new-unmoved six =
      let still : (i : ℕ) → i < states p → at from i ≡ i =
      λ i l. ap (λ (xs : List ℕ). at xs i) (in-order-identity p six) ∙ (from_at 0 (states p) i l ∙ omega arith) in
      bytes-still p from to h still d.six shaped.start cells shaped.count ∙
      ap (λ (x : List ℕ). head_tag ∷ drop 1 x) (sym is)

  -- What the inverse makes of the new sheet with other cells, as work leaves them, is the old problem with those cells at the old numbers;
  -- the list's entries past the stages are not read.
  pub worked_back : (later : List Cell) (rest : List ℕ) → Shaped (rearranged p) later →
      restored_bytes (write (rearranged p) later) (from ++ rest) ≡ write p (moved_cells to later)
  worked_back later rest sh =
      let back = ap (λ (t : ℕ). moved t to from (rearranged p)) (sym tagged) ∙ problem-back head_tag p from to h d.six shaped.start in
      rw (
        written-problem (rearranged p) later sh,
        written-cells (rearranged p) later sh,
        take_at from rest (states (rearranged p)) (d.full ∙ sym (moved-states head_tag p from to h)),
        back,
      )

  -- with its own cells it is the draft, to the byte
  pub back-exactly : (rest : List ℕ) → restored_bytes (rearranged_bytes s) (from ++ rest) ≡ s
  back-exactly rest =
      worked_back (rearranged_cells p cells) rest draft-asked.shaped
      ∙ rw (cells-back head_tag p from to h cells shaped.count) (sym is)

  -- the inverse does not refuse the new sheet with the list
  listed : (rest : List ℕ) → question11_back (problem_of (rearranged_bytes s)) (from ++ rest) ≡ true
  unfolding question11_back lists
  listed rest =
      rw (new-problem, moved-states head_tag p from to h, take_at from rest (states p) d.full)
      (true-every (states p) _ (λ t l. times-among t from (all_placed p d.full t l)))

  pub back-unrefused : (rest : List ℕ) (entries output : ℕ) → max_states ≤ entries → length s ≤ output →
      max_states ≤ length (from ++ rest) →
      restore_refusal (rearranged_bytes s) entries (from ++ rest) output ≡ 0
  unfolding restore_refusal question1_lent
  back-unrefused rest entries output table room list =
      let yes = stands-yes _ _ _ new-stands in
      let long : length (rearranged_bytes s) ≤ output = rw new-length room in
      all_yes (question 1 (λ _. question1_lent (rearranged_bytes s) entries output (length (from ++ rest))) ∷
      back_questions (rearranged_bytes s) (from ++ rest)) (
        true-all _ (le-leb _ _ table, (le-leb _ _ long, (le-leb _ _ list, tt))),
        (yes.two, (yes.three, (yes.four, (yes.ten, (yes.five, (yes.six, (listed rest, (yes.seven, (yes.eight, tt))))))))),
      )

  pub restored-after : (rest t again : List ℕ) → max_states ≤ length t → length s ≤ length again → max_states ≤ length (from ++ rest) →
      restored_output (rearranged_bytes s) t (from ++ rest) again ≡ s ++ drop (length s) again
  unfolding restored_output on_refusal
  restored-after rest t again table room list = rw (back-unrefused rest (length t) (length again) table room list, back-exactly rest)

-- what an accepted call of the rearranger leaves
module _ (s t output list : List ℕ) (un : rearrange_refusal s (length t) (length output) (length list) ≡ 0) where
  pub output-is : rearranged_output s t output list ≡ rearranged_bytes s ++ drop (length (rearranged_bytes s)) output
  unfolding rearranged_output on_refusal
  output-is = rw un

  pub list-is : rearranged_list s t output list ≡ order (problem_of s) ++ replicate (length list - states (problem_of s)) 0
  unfolding rearranged_list on_refusal
  list-is = rw un

-- The two calls, one after the other: the second's output begins with the draft that the first was given, to the byte.
pub there_and_back : (s t output list t' again : List ℕ) → Bytes s → rearrange_refusal s (length t) (length output) (length list) ≡ 0 →
    max_states ≤ length t' → length s ≤ length again →
    restored_output (take (length s) (rearranged_output s t output list)) t' (rearranged_list s t output list) again ≡ s ++ drop (length s)
    again
there_and_back s t output list t' again byte un table room =
    let (long, many, d) = unrefused-draft s (length t) (length output) (length list) un in
    let front : take (length s) (rearranged_bytes s ++ drop (length (rearranged_bytes s)) output) ≡ rearranged_bytes s =
    take_at (rearranged_bytes s) (drop (length (rearranged_bytes s)) output) (length s) (new-length s byte d) in
    let zeros : List ℕ = replicate (length list - states (problem_of s)) 0 in
    rw (output-is s t output list un, list-is s t output list un, front)
    (restored-after s byte d zeros t' again table room
    (omega (
      arith,
      many,
      length-append (order (problem_of s)) zeros,
      length-replicate {A = ℕ} (length list - states (problem_of s)) 0,
      d.full,
    )))
