-- What is read writes back to the same bytes, and has the shape that reads back.
use Prim.Native.Nat.{ℕ, zero, suc, ◌+◌, ◌*◌, ◌-◌, ◌/◌, ◌%◌, ◌<◌, ◌≤◌}
use mathlib.Core.Path.{◌≡◌, refl, ap, ◌∙◌}
use mathlib.Core.Bool.{Bool, true, false}
use mathlib.Core.List.{List, [], ◌∷◌, ◌++◌, append_assoc}
use native.Mathlib.Omega.{arith}
use native.Mathlib.Nat.{add-zero}
use lib.Dec.{eqb}
use borrow.Author.Tests.{eqb-true, leb-true}
use lib.ListN.{length, get_or, drop, length-drop, drop_of_length-le}
use lib.Seq.{drop-drop, drop-cons, get_or-drop}
use Rattle.model.proofs.TestLaws.{also-true, all_true}
use Rattle.model.specs.Problem.{Node, terminal, decision, Cell, cell, cell_of}
use Rattle.model.specs.Format.{Bytes, be16, be32, terminal_tag, counted_tag, decision_tag, action_tag, terminal_length, decision_length}
use Rattle.model.specs.Format.{min_action_length, max_action_length, decision_size}
use Rattle.model.specs.Format.{successors_bytes, action_bytes, actions_bytes, form_bytes, node_bytes, nodes_bytes, kind_byte, write}
use Rattle.model.specs.Limits.{max_actions, max_states}
use Rattle.model.specs.Read.{tag, action_fits, successors_read, action_read, actions_good, actions_read, actions_long}
use Rattle.model.specs.Read.{past_actions, field_fits, form_read, header_fits, past_header, decision_fits, decision_cell}
use Rattle.model.specs.Read.{nodes_good, nodes_read, cells_read, kind_of}
use Rattle.model.specs.Read.{problem_of, cells_of}
use Rattle.model.specs.Questions.{question3, question4}
use Rattle.layout.proofs.Heads.{head-says}
use Rattle.layout.specs.Shape.{FewSuccessors, ActionsShaped, NodeShaped, NodesShaped, ChosenShaped, Shaped}

bytes_drop : (k : ℕ) (bs : List ℕ) → Bytes bs → Bytes (drop k bs)
bytes_drop k bs byte i = rw get_or-drop (byte (k + i))

-- The elements of bs from o on: k of them one by one, then t.
abbrev heads : ℕ → ℕ → List ℕ → List ℕ → List ℕ
heads zero o bs t = t
heads (suc k) o bs t = get_or bs o 0 ∷ heads k (suc o) bs t

peel : (k o : ℕ) (bs : List ℕ) → o + k ≤ length bs → drop o bs ≡ heads k o bs (drop (o + k) bs)
peel zero o bs le = rw add-zero
peel (suc k) o bs le =
    let lt : o < length bs = omega arith in
    let e : o + suc k ≡ suc o + k = omega arith in
    rw (e, drop-cons bs o 0, peel k (suc o) bs (omega arith))

-- The bytes that a number was read from.
pub two_back : (bs : List ℕ) (o : ℕ) → Bytes bs → (be16 bs o / 256 ≡ get_or bs o 0) × (be16 bs o % 256 ≡ get_or bs (o + 1) 0)
unfolding be16
two_back bs o byte = omega (arith, byte o, byte (o + 1))

pub four-back : (bs : List ℕ) (o : ℕ) → Bytes bs →
    (be32 bs o / 16777216 ≡ get_or bs o 0) × (be32 bs o / 65536 % 256 ≡ get_or bs (o + 1) 0) ×
    (be32 bs o / 256 % 256 ≡ get_or bs (o + 2) 0) × (be32 bs o % 256 ≡ get_or bs (o + 3) 0)
unfolding be32
four-back bs o byte = omega (arith, byte o, byte (o + 1), byte (o + 2), byte (o + 3))

-- the byte that a kind was read from
pub kind-same : (b : ℕ) → b ≤ 1 → kind_byte (kind_of b) ≡ b
unfolding kind_byte kind_of
kind-same zero le = refl
kind-same (suc b) le = omega arith

-- Successors, and one action.
pub successors-count : (n : ℕ) (r : List ℕ) → length (successors_read n r) ≡ n
unfolding successors_read
successors-count zero r = refl
successors-count (suc n) r = ap suc (successors-count n (drop 2 r))

successors-same : (n : ℕ) (r : List ℕ) → Bytes r → 2 * n ≤ length r →
    r ≡ successors_bytes (successors_read n r) ++ drop (2 * n) r
unfolding successors_read successors_bytes
successors-same zero r byte le = refl
successors-same (suc n) r byte le =
    let t = two_back r 0 byte in
    let e : 2 * suc n ≡ 2 + 2 * n = omega arith in
    let ih = successors-same n (drop 2 r) (bytes_drop 2 r byte) (simp length-drop (omega arith)) in
    peel 2 0 r (omega arith) ∙ cc (drop-drop (2 * n) 2 r)

-- what an action's field that fits says of its content's length
pub action-parts : (r : List ℕ) → action_fits r ≡ true →
    let n = be16 r 1 in (min_action_length ≤ n) × (n ≤ max_action_length) × (n % 2 ≡ 0) × (3 + n ≤ length r)
unfolding action_fits
action-parts r fits = omega (arith, leb-true, eqb-true, all_true _ fits)

action-few : (r : List ℕ) → action_fits r ≡ true → FewSuccessors (action_read r).successors
unfolding action_read
action-few r fits = simp successors-count (omega (arith, action-parts r fits))

action-same : (r : List ℕ) → Bytes r → tag r ≡ action_tag → action_fits r ≡ true →
    r ≡ action_bytes (action_read r) ++ drop (3 + be16 r 1) r
unfolding action_read
action-same r byte is fits =
    let parts = action-parts r fits in
    let n = (be16 r 1 - 4) / 2 in
    let count = successors-count n (drop 7 r) in
    let e : 4 + 2 * n ≡ be16 r 1 = omega arith in
    let m : 7 + 2 * n ≡ 3 + be16 r 1 = omega arith in
    let t = two_back r 1 byte in let q = four-back r 3 byte in
    let same = successors-same n (drop 7 r) (bytes_drop 7 r byte) (simp length-drop (omega arith)) in
    peel 7 0 r (omega arith) ∙ cc (drop-drop (2 * n) 7 r)

-- Induction on actions in place at the front of r, of which there may be m: no more may stand there, no more does, or one does with others
-- behind it.
module _
    (P : ℕ → List ℕ → Type 0) (full : (r : List ℕ) → P 0 r)
    (done : (m : ℕ) (r : List ℕ) → eqb (tag r) action_tag ≡ false → P (suc m) r)
    (more : (m : ℕ) (r : List ℕ) → tag r ≡ action_tag → action_fits r ≡ true → P m (drop (3 + be16 r 1) r) → P (suc m) r)
  where
    pub along-actions : (m : ℕ) (r : List ℕ) → actions_good m r ≡ true → P m r
    unfolding actions_good
    along-actions zero r good = full r
    along-actions (suc m) r good = by-tag (eqb (tag r) action_tag) refl (along-actions m)
      where
        by-tag : (t : Bool) → eqb (tag r) action_tag ≡ t → ((r : List ℕ) → actions_good m r ≡ true → P m r) → P (suc m) r
        by-tag true e ih = let f = also-true _ _ (rw e at good) in more m r (eqb-true _ _ e) f.0 (ih _ f.1)
        by-tag false e ih = done m r e

actions-same : (m : ℕ) (r : List ℕ) → actions_good m r ≡ true → Bytes r → r ≡ actions_bytes (actions_read m r) ++ past_actions m r
unfolding actions_read actions_long actions_bytes
actions-same =
    along-actions (λ m r. Bytes r → r ≡ actions_bytes (actions_read m r) ++ past_actions m r) (λ r byte. refl) (λ m r e byte. rw e)
    (λ m r is fits ih byte.
    let one = action-same r byte is fits in let others = ih (bytes_drop (3 + be16 r 1) r byte) in
    rw (is, append_assoc, ← drop-drop (actions_long m (drop (3 + be16 r 1) r))) (cc))

actions-shaped : (m : ℕ) (r : List ℕ) → actions_good m r ≡ true →
    ActionsShaped (actions_read m r) × (length (actions_read m r) ≤ m)
unfolding actions_read
actions-shaped =
    along-actions (λ m r. ActionsShaped (actions_read m r) × (length (actions_read m r) ≤ m))
    (λ r. (tt, omega arith))
    (λ m r e. rw e (tt, omega arith))
    (λ m r is fits ih. rw is ((action-few r fits, ih.0), omega arith))

-- One state's field.
module _ (r : List ℕ) (byte : Bytes r) where
  terminal-same : tag r ≡ terminal_tag → field_fits terminal_length r ≡ true →
      r ≡ node_bytes (terminal (be32 r 3)) (cell (be32 r 7) (get_or r 11 0) 0) ++ drop 12 r
  unfolding field_fits node_bytes
  terminal-same is fits =
      let e = all_true _ fits in let l : be16 r 1 ≡ terminal_length = omega (arith, eqb-true) in
      let t = two_back r 1 byte in let p = four-back r 3 byte in let q = four-back r 7 byte in
      peel 12 0 r (omega (arith, leb-true)) ∙ cc

  module _ (fits : decision_fits r ≡ true) where
    decision-parts : let form = form_read r in
        (tag r ≡ decision_tag form) × (be16 r 1 ≡ decision_length form) × (decision_size form ≤ length r)
    unfolding decision_fits header_fits field_fits
    decision-parts =
        let (tagged, field) = also-true _ _ (also-true _ _ fits).0 in omega (arith, leb-true, eqb-true, tagged, all_true _ field)

    actions-fit : actions_good max_actions (past_header r) ≡ true
    unfolding decision_fits
    actions-fit = (also-true _ _ fits).1

    -- the decision's own field, in its form
    header-same : r ≡ node_bytes (decision (form_read r) []) (decision_cell r) ++ past_header r
    unfolding form_read decision_tag decision_length form_bytes node_bytes actions_bytes
    header-same = by-tag (eqb (tag r) counted_tag) refl decision-parts
      where
        by-tag : (b : Bool) → eqb (tag r) counted_tag ≡ b →
            let form = form_read r in
            (tag r ≡ decision_tag form) × (be16 r 1 ≡ decision_length form) × (decision_size form ≤ length r) →
            r ≡ node_bytes (decision (form_read r) []) (decision_cell r) ++ past_header r
        by-tag true e h =
            let t = two_back r 1 byte in let q = four-back r 3 byte in
            rw e (let (tagged, long, room) = rw e at h in peel 10 0 r room ∙ cc)
        by-tag false e h =
            let t = two_back r 1 byte in let q = four-back r 3 byte in
            rw e (let (tagged, long, room) = rw e at h in peel 9 0 r room ∙ cc)

    decision-same : r ≡ node_bytes (decision (form_read r) (actions_read max_actions (past_header r))) (decision_cell r) ++
        past_actions max_actions (past_header r)
    unfolding node_bytes actions_bytes
    decision-same =
        let same = actions-same max_actions (past_header r) actions-fit (bytes_drop (decision_size (form_read r)) r byte) in
        header-same ∙ simp append_assoc (cc)

    decision-shaped : NodeShaped (decision (form_read r) (actions_read max_actions (past_header r)))
    decision-shaped = let h = actions-shaped max_actions (past_header r) actions-fit in (h.1, h.0)

-- r is what n states with these nodes and cells write, and they have the shape.
record Written (n : ℕ) (r : List ℕ) (ns : List Node) (cells : List Cell) : Type 0 where
  same : r ≡ nodes_bytes ns cells
  nodes : NodesShaped ns
  nodes_count : length ns ≡ n
  cells_count : length cells ≡ n
  chosen : (s : ℕ) → s < length ns → ChosenShaped (get_or ns s (terminal 0)) (cell_of cells s)

written-cons : {n : ℕ} {r rest : List ℕ} {m : Node} {c : Cell} {ns : List Node} {cells : List Cell} →
    r ≡ node_bytes m c ++ rest → NodeShaped m → ChosenShaped m c → Written n rest ns cells →
    Written (suc n) r (m ∷ ns) (c ∷ cells)
unfolding nodes_bytes
written-cons {m} {c} {ns} {cells} e shaped chosen w = record {
  same = cc;
  nodes = (shaped, w.nodes);
  nodes_count = cc;
  cells_count = cc;
  chosen = by;
}
  where
    by : (s : ℕ) → s < length (m ∷ ns) → ChosenShaped (get_or (m ∷ ns) s (terminal 0)) (cell_of (c ∷ cells) s)
    by zero lt = chosen
    by (suc s) lt = w.chosen s (omega arith)

nodes-written : (n : ℕ) (r : List ℕ) → Bytes r → nodes_good n r ≡ true → Written n r (nodes_read n r) (cells_read n r)
unfolding nodes_good nodes_read cells_read nodes_bytes
nodes-written zero r byte good = record {
  same = drop_of_length-le r {i = 0} (omega (arith, eqb-true (length r) 0 good));
  nodes = tt;
  nodes_count = refl;
  cells_count = refl;
  chosen = λ s lt. absurd (omega arith);
}
nodes-written (suc n) r byte good = by-tag (eqb (tag r) terminal_tag) refl (nodes-written n)
  where
    by-tag : (t : Bool) → eqb (tag r) terminal_tag ≡ t →
        ((r : List ℕ) → Bytes r → nodes_good n r ≡ true → Written n r (nodes_read n r) (cells_read n r)) →
        Written (suc n) r (nodes_read (suc n) r) (cells_read (suc n) r)
    by-tag true e ih =
        let f = also-true _ _ (rw e at good) in
        rw e (written-cons (terminal-same r byte (eqb-true _ _ e) f.0) tt refl (ih (drop 12 r) (bytes_drop 12 r byte) f.1))
    by-tag false e ih =
        let f = also-true _ _ (rw e at good) in
        let past =
        bytes_drop (actions_long max_actions (past_header r)) (past_header r) (bytes_drop (decision_size (form_read r)) r byte) in
        let others = ih (past_actions max_actions (past_header r)) past f.1 in
        rw e (written-cons (decision-same r byte f.0) (decision-shaped r byte f.0) tt others)

module _ (wanted : ℕ) (bs : List ℕ) (byte : Bytes bs) (head : question3 wanted max_states bs ≡ true) (body : question4 bs ≡ true) where
  body-written : Written (be16 bs 4) (drop 8 bs) (problem_of bs).nodes (cells_of bs)
  unfolding question4 problem_of cells_of
  body-written = nodes-written (be16 bs 4) (drop 8 bs) (bytes_drop 8 bs byte) body

  pub read-writes : bs ≡ write (problem_of bs) (cells_of bs)
  unfolding write problem_of
  read-writes =
      let e = head-says bs head in let w = body-written in let kind = kind-same (get_or bs 3 0) e.3 in
      let t = two_back bs 1 byte in let n = two_back bs 4 byte in let m = two_back bs 6 byte in
      peel 8 0 bs e.2 ∙ cc

  pub read_head : (problem_of bs).head ≡ wanted
  unfolding problem_of
  read_head = (head-says bs head).0

  pub read-shaped : Shaped (problem_of bs) (cells_of bs)
  unfolding problem_of
  read-shaped =
      let e = head-says bs head in let w = body-written in
      record {
        some = omega arith;
        most = omega arith;
        start = omega arith;
        nodes = w.nodes;
        count = omega arith;
        chosen = w.chosen;
      }
