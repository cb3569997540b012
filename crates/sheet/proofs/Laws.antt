-- What the bytes of a sheet are at each offset that the code reads or stores.
use Prim.Native.Nat.{ℕ, zero, suc, ◌+◌, ◌-◌, ◌*◌, ◌/◌, ◌%◌, ◌<◌, ◌≤◌}
use mathlib.Core.Path.{◌≡◌, refl, ap, ◌∙◌, sym}
use mathlib.Core.Bool.{Bool, true, false}
use mathlib.Core.List.{List, [], ◌∷◌, ◌++◌}
use native.Mathlib.Omega.{arith}
use native.Mathlib.Numerals.{add-one}
use borrow.Author.Tests.{eqb-true, eqb-false, lt-ltb, le-ltb}
use lib.Dec.{eqb, ltb}
use lib.ListN.{length, get_or, set, take, drop, length-set, length-append, length-drop, get_or-append}
use lib.Seq.{get_or-set_same, get_or-set_other, set-set, drop-drop}
use Rattle.std.proofs.lemmas.List.{get_or-take, length-take, drop-take, take_rest}
use Rattle.model.specs.Problem.{Kind, worst, whole, Action, plain, counted, Node, terminal, decision, Problem, Cell, cell, states}
use Rattle.model.specs.Problem.{node_at, action_at}
use Rattle.model.specs.Problem.{cell_of, set_value, set_solved}
use Rattle.model.specs.Format.{be16, be32, put32, min_action_length, max_action_length, terminal_tag, plain_tag, decision_tag, action_tag}
use Rattle.model.specs.Format.{decision_length, write}
use Rattle.model.specs.Format.{node_size, action_place, tag_of}
use Rattle.model.specs.Format.{value_in, offset, value_offset, actions_of, form_of, action_offset, offsets_from}
use Rattle.model.specs.Read.{kind_of, action_fits, successors_read, action_read, problem_of, cells_of}
use Rattle.model.specs.Limits.{max_actions, max_successors}
use Rattle.layout.specs.Shape.{FewSuccessors, NodeShaped, ChosenShaped, Shaped, set_mark, set_chosen}
use Rattle.layout.proofs.Bytes.{be16-from, put32-from}
use Rattle.layout.proofs.Index.{offsets-count, index_is}
use Rattle.layout.proofs.Places.{form-length, other_tag, write-length}
use Rattle.layout.proofs.Shapes.{node-shaped, action-shaped}
use Rattle.layout.proofs.Fields.{state-room, value_room, tag_at, value-at, mark-at, value-stored, mark-stored, cost-at}
use Rattle.layout.proofs.Fields.{header-length-at, chosen_at, chosen-stored, action-tag-at, action-next, after_last}
use Rattle.layout.proofs.Back.{problem-back, cells-back}
use Rattle.layout.proofs.Actions.{content-of, count_of, written-action, written-fits, successor-of}
use Rattle.sheet.specs.Sheet.{Sheet, Within, Terminal, Decision, Priced, Below, Place, action_of, Walk, walked, Walks, Comes, terminal_cost}

-- A node by its tag, and where the value stands in its field.
pub is-terminal : (n : Node) → tag_of n ≡ terminal_tag → n ≡ terminal (terminal_cost n)
unfolding tag_of terminal_cost
is-terminal (terminal cost) e = refl
is-terminal (decision form acts) e = absurd (other_tag form terminal_tag refl e)

-- a state that is no terminal is a decision
pub is-decision : (n : Node) → (tag_of n ≡ terminal_tag → ⊥) → n ≡ decision (form_of n) (actions_of n)
unfolding tag_of form_of actions_of
is-decision (terminal cost) e = absurd (e refl)
is-decision (decision form acts) e = refl

terminal-value : (n : Node) → tag_of n ≡ terminal_tag → value_in n ≡ 7
unfolding tag_of value_in
terminal-value (terminal cost) e = refl
terminal-value (decision form acts) e = absurd (other_tag form terminal_tag refl e)

decision-value : (n : Node) → (tag_of n ≡ terminal_tag → ⊥) → value_in n ≡ 3
unfolding tag_of value_in
decision-value (terminal cost) e = absurd (e refl)
decision-value (decision form acts) e = refl

nine-inside : (n : Node) → 9 ≤ node_size n
unfolding node_size
nine-inside (terminal cost) = omega arith
nine-inside (decision form acts) = omega (arith, form-length form)

-- a node with the tag of a plain decision has the length of one
plain-length : (n : Node) → tag_of n ≡ plain_tag → decision_length (form_of n) ≡ 6
unfolding tag_of form_of decision_tag decision_length
plain-length (terminal cost) e = absurd (omega arith)
plain-length (decision plain acts) e = refl
plain-length (decision (counted n) acts) e = absurd (omega arith)

own-inside : (n : Node) → (tag_of n ≡ terminal_tag → ⊥) → 3 + decision_length (form_of n) ≤ node_size n
unfolding tag_of form_of node_size
own-inside (terminal cost) e = absurd (e refl)
own-inside (decision form acts) e = omega arith

-- what is chosen stays in shape
chosen-kept : (n : Node) (c c' : Cell) → c'.chosen ≡ c.chosen → ChosenShaped n c → ChosenShaped n c'
chosen-kept (terminal cost) c c' e h = e ∙ h
chosen-kept (decision form acts) c c' e h = tt

-- one cell changed
pub shaped-set : {p : Problem} {cells : List Cell} → Shaped p cells → (i : ℕ) (c : Cell) → i < states p →
    ChosenShaped (node_at p i) c →
    Shaped p (set cells i c)
shaped-set {p} {cells} h i c lt ch = record {
  some = h.some;
  most = h.most;
  start = h.start;
  nodes = h.nodes;
  count = length-set cells i c ∙ h.count;
  chosen = λ j lj. by j lj (eqb j i) refl;
}
  where
    by : (j : ℕ) → j < states p → (b : Bool) → eqb j i ≡ b → ChosenShaped (node_at p j) (cell_of (set cells i c) j)
    by j lj true e = rw (eqb-true j i e, get_or-set_same cells i c (cell 0 0 0) (omega (arith, h.count))) ch
    by j lj false e = rw (get_or-set_other cells i j c (cell 0 0 0) (eqb-false j i e)) (h.chosen j lj)

-- an action's field that fits, with its successors, is inside
pub action-inside : (s : List ℕ) (o : ℕ) → action_fits (drop o s) ≡ true →
    (length (action_read (drop o s)).successors ≤ max_successors) × (o + 7 + 2 * length (action_read (drop o s)).successors ≤ length s)
action-inside s o fits = omega (arith, content-of s o fits, count_of s o fits)

pub some-successor : (s : List ℕ) (o : ℕ) → action_fits (drop o s) ≡ true → 0 < length (action_read (drop o s)).successors
some-successor s o fits = omega (arith, content-of s o fits, count_of s o fits)

-- a table that begins with the offsets makes a sheet of what is written
pub indexed : {s t : List ℕ} {p : Problem} {cells : List Cell} (rest : List ℕ) → s ≡ write p cells → Shaped p cells →
    t ≡ offsets_from 8 p.nodes ++ rest → Sheet s t p cells
indexed {p} rest is shaped e = record {
  is = is;
  shaped = shaped;
  wide = rw (e, length-append, offsets-count 8 p.nodes) (omega arith);
  table = λ i lt. rw e (get_or-append (offsets_from 8 p.nodes) rest 0 i (rw (offsets-count 8 p.nodes) lt) ∙ index_is p i lt);
}

-- the sheet of bytes that are known by two names
pub seen : {b s t : List ℕ} → b ≡ s → Sheet b t (problem_of b) (cells_of b) → Sheet s t (problem_of s) (cells_of s)
seen e h = rw e at h

-- The problem and the cells of a sheet are those that its bytes say.
module _ {s t : List ℕ} {p : Problem} {cells : List Cell} (h : Sheet s t p cells) where
  pub problem-is : problem_of s ≡ p
  problem-is = ap problem_of h.is ∙ problem-back p cells h.shaped

  pub cells_are : cells_of s ≡ cells
  cells_are = ap cells_of h.is ∙ cells-back p cells h.shaped

  pub named : Sheet s t p (cells_of s)
  named = rw cells_are h

  pub own : Sheet s t (problem_of s) (cells_of s)
  own = rw (problem-is, cells_are) h

  pub within : (i : ℕ) → i < states p → Within s t i
  within i lt = record { sheet = own; below = rw problem-is lt }

  -- what a contract says of a state, of p
  pub state-below : {i : ℕ} → Within s t i → i < states p
  state-below w = rw problem-is at w.below

  pub terminal-tag : {i : ℕ} → Terminal s t i → tag_of (node_at p i) ≡ terminal_tag
  terminal-tag w = rw problem-is at w.tag

  pub decision-tag : {i : ℕ} → Decision s t i → tag_of (node_at p i) ≡ terminal_tag → ⊥
  decision-tag w = rw problem-is at w.tag

pub sheet-length : {s s' t t' : List ℕ} {p : Problem} {cells cells' : List Cell} → Sheet s t p cells →
    Sheet s' t' p cells' →
    length s' ≡ length s
sheet-length {p} {cells} {cells'} h h' = rw (h.is, h'.is) (write-length p cells' cells)

-- State i of a sheet: its fields, and stores in its cell.
module _ {s t : List ℕ} {p : Problem} {cells : List Cell} (h : Sheet s t p cells) (i : ℕ) (lt : i < states p) where
  long : length s ≡ length (write p cells)
  long = ap length h.is

  -- the first nine bytes of its field are inside
  pub nine-room : offset p i + 9 ≤ length s
  nine-room = omega (arith, long, state-room p cells i lt, nine-inside (node_at p i))

  pub state-in : offset p i < length s
  state-in = omega (arith, nine-room)

  pub tag-of : get_or s (offset p i) 0 ≡ tag_of (node_at p i)
  tag-of = rw h.is (tag_at p cells i lt)

  value-place : (o k : ℕ) → o ≡ offset p i → value_in (node_at p i) ≡ k → (o + k ≡ value_offset p i) × (o + k + 5 ≤ length s)
  unfolding value_offset
  value-place o k here e = omega (arith, long, value_room p cells i lt)

  -- where its value stands
  pub place-terminal : (o : ℕ) → o ≡ offset p i → get_or s o 0 ≡ terminal_tag →
      (o + 7 ≡ value_offset p i) × (o + 7 + 5 ≤ length s)
  place-terminal o here e = value-place o 7 here (terminal-value (node_at p i) (sym tag-of ∙ rw here at e))

  pub place-decision : (o : ℕ) → o ≡ offset p i → (get_or s o 0 ≡ terminal_tag → ⊥) →
      (o + 3 ≡ value_offset p i) × (o + 3 + 5 ≤ length s)
  place-decision o here e = value-place o 3 here (decision-value (node_at p i) (λ y. e (rw here (tag-of ∙ y))))

  pub value-of : be32 s (value_offset p i) ≡ (cell_of cells i).value
  value-of = rw h.is (value-at p cells i lt)

  pub mark_of : get_or s (value_offset p i + 4) 0 ≡ (cell_of cells i).mark
  mark_of = rw h.is (mark-at p cells i lt)

  -- bytes that write the sheet with another cell
  with_cell : (s' : List ℕ) (c : Cell) → s' ≡ write p (set cells i c) → ChosenShaped (node_at p i) c →
      Sheet s' t p (set cells i c)
  with_cell s' c is ch = record { is = is; shaped = shaped-set h.shaped i c lt ch; wide = h.wide; table = h.table }

  pub has-cell : i < length cells
  has-cell = omega (arith, h.shaped.count)

  same_chosen : (c : Cell) → c.chosen ≡ (cell_of cells i).chosen → ChosenShaped (node_at p i) c
  same_chosen c e = chosen-kept (node_at p i) (cell_of cells i) c e (h.shaped.chosen i lt)

  pub with_value : (x : ℕ) → Sheet (put32 s (value_offset p i) x) t p (set_value cells i x)
  with_value x = with_cell _ _ (rw h.is (value-stored p cells i lt x has-cell)) (same_chosen _ refl)

  pub with-mark : (m : ℕ) → Sheet (set s (value_offset p i + 4) m) t p (set_mark cells i m)
  with-mark m = with_cell _ _ (rw h.is (mark-stored p cells i lt m has-cell)) (same_chosen _ refl)

  -- marked where nothing is chosen
  pub with-end-solved : (cell_of cells i).chosen ≡ 0 → Sheet (set s (value_offset p i + 4) 1) t p (set_solved cells i 0)
  with-end-solved none-chosen = rw none-chosen at (with-mark 1)

  -- a terminal
  module _ (tag : tag_of (node_at p i) ≡ terminal_tag) where
    pub terminal-cost-of : be32 s (offset p i + 3) ≡ terminal_cost (node_at p i)
    terminal-cost-of = rw h.is (cost-at p cells i lt (terminal_cost (node_at p i)) (is-terminal (node_at p i) tag))

  -- a decision
  module _ (tag : tag_of (node_at p i) ≡ terminal_tag → ⊥) where
    pub chosen-room : value_offset p i + 6 ≤ length s
    unfolding value_offset
    chosen-room = omega (arith, long, decision-value (node_at p i) tag, state-room p cells i lt, nine-inside (node_at p i))

    pub chosen_of : get_or s (value_offset p i + 5) 0 ≡ (cell_of cells i).chosen
    chosen_of = rw h.is (chosen_at p cells i lt (actions_of (node_at p i)) (is-decision (node_at p i) tag))

    -- its first action stands behind its own field: behind six bytes of content where it has the tag of a plain one, and else behind as
    -- many as the second byte of its length says
    own_behind : (o n : ℕ) → o ≡ offset p i → n ≡ decision_length (form_of (node_at p i)) →
        (o + 3 + n ≡ action_offset p i 0) × (o + 3 + n ≤ length s)
    unfolding action_offset action_place
    own_behind o n here says = omega (arith, long, state-room p cells i lt, own-inside (node_at p i) tag)

    pub first-of-plain : (o : ℕ) → o ≡ offset p i → get_or s o 0 ≡ plain_tag → (o + 9 ≡ action_offset p i 0) × (o + 9 ≤ length s)
    first-of-plain o here e =
        let six = plain-length (node_at p i) (sym tag-of ∙ rw here at e) in omega (arith, own_behind o 6 here (sym six))

    pub first-by-length : (o n : ℕ) → o ≡ offset p i → n ≡ get_or s (o + 2) 0 →
        (o + 3 + n ≡ action_offset p i 0) × (o + 3 + n ≤ length s)
    first-by-length o n here is =
        let node = is-decision (node_at p i) tag in
        own_behind o n here
        (is ∙ rw (here, h.is) (header-length-at p cells i lt (actions_of (node_at p i)) node))

    pub with-chosen : (k : ℕ) → Sheet (set s (value_offset p i + 5) k) t p (set_chosen cells i k)
    with-chosen k =
        let is = is-decision (node_at p i) tag in
        with_cell _ _ (rw h.is (chosen-stored p cells i lt (actions_of (node_at p i)) is k has-cell)) (rw is tt)

-- the kind by its byte
kind-by : (b : ℕ) → (b ≡ 0 → worst ≡ kind_of b) × ((b ≡ 0 → ⊥) → whole ≡ kind_of b)
unfolding kind_of
kind-by zero = (λ e. refl, λ ne. absurd (ne refl))
kind-by (suc b) = (λ e. absurd (omega arith), λ ne. refl)

pub kind-worst : (s : List ℕ) → get_or s 3 0 ≡ 0 → worst ≡ (problem_of s).kind
unfolding problem_of
kind-worst s = (kind-by (get_or s 3 0)).0

pub kind-whole : (s : List ℕ) → (get_or s 3 0 ≡ 0 → ⊥) → whole ≡ (problem_of s).kind
unfolding problem_of
kind-whole s = (kind-by (get_or s 3 0)).1

-- the kind's byte is inside
pub head-room : {s t : List ℕ} {p : Problem} {cells : List Cell} → Sheet s t p cells → 3 < length s
head-room h = omega (arith, nine-room h 0 h.shaped.some)

-- so are the head's bytes
pub head-inside : {s t : List ℕ} {p : Problem} {cells : List Cell} → Sheet s t p cells → 8 ≤ length s
unfolding offset
head-inside h = omega (arith, nine-room h 0 h.shaped.some)

pub start-read : (s : List ℕ) → be16 s 6 ≡ (problem_of s).start
unfolding problem_of
start-read s = refl

pub with-decision-solved : {s t : List ℕ} {p : Problem} {cells : List Cell} → Sheet s t p cells → (i : ℕ) → i < states p →
    (tag_of (node_at p i) ≡ terminal_tag → ⊥) → (k : ℕ) →
    Sheet (set (set s (value_offset p i + 4) 1) (value_offset p i + 5) k) t p (set_solved cells i k)
with-decision-solved {cells} h i lt tag k =
    rw (set-set, get_or-set_same cells i _ _ (has-cell h i lt)) at (with-chosen (with-mark h i lt 1) i lt tag k)

-- Action k of decision i, which stands at o.
abbrev pub actions_at : Problem → ℕ → List Action
actions_at p i = actions_of (node_at p i)

module _ {s t : List ℕ} {p : Problem} {cells : List Cell} (h : Sheet s t p cells) (i : ℕ) (lt : i < states p)
    (tag : tag_of (node_at p i) ≡ terminal_tag → ⊥) where
  node-is : node_at p i ≡ decision (form_of (node_at p i)) (actions_at p i)
  node-is = is-decision (node_at p i) tag

  shape : NodeShaped (decision (form_of (node_at p i)) (actions_at p i))
  shape = rw node-is at (node-shaped p.nodes h.shaped.nodes i)

  pub few-actions : length (actions_at p i) ≤ max_actions
  few-actions = shape.0

  pub few-successors : (k : ℕ) → k < length (actions_at p i) → FewSuccessors (action_at (actions_at p i) k).successors
  few-successors k lk = action-shaped (actions_at p i) k lk shape.1

  module _ (k o : ℕ) (here : o ≡ action_offset p i k) where
    -- whether there is one
    pub action-stands : k ≤ length (actions_at p i) → eqb (get_or s o 0) action_tag ≡ true → k < length (actions_at p i)
    action-stands le e =
        let tagged = eqb-true (get_or s o 0) action_tag e in
        let ne : k ≡ length (actions_at p i) → ⊥ =
        λ w. after_last p cells i lt (actions_at p i) node-is (rw (h.is, here, w) at tagged) in
        omega arith

    pub action-ends : eqb (get_or s o 0) action_tag ≡ false → length (actions_at p i) ≤ k
    action-ends e =
        let tag-of = action-tag-at p cells i lt (actions_at p i) node-is k in
        let no : k < length (actions_at p i) → ⊥ = λ lk. eqb-false (get_or s o 0) action_tag e (rw (h.is, here) (tag-of lk)) in
        omega arith

    -- what it says
    module _ (lk : k < length (actions_at p i)) where
      pub action-is : action_read (drop o s) ≡ action_at (actions_at p i) k
      action-is = rw (h.is, here) (written-action p cells i lt (actions_at p i) node-is k lk)

      pub action-in-place : action_fits (drop o s) ≡ true
      action-in-place = rw (h.is, here) (written-fits p cells i lt (actions_at p i) node-is k lk (few-successors k lk))

      pub action-priced : (let ts = (action_at (actions_at p i) k).successors in (j : ℕ) → j < length ts → get_or ts j 0 < states p) →
          Priced s t o
      action-priced below = record { sheet = own h; fits = action-in-place; below = rw (action-is, problem-is h) below }

      -- what follows it
      pub action-after : (r : ℕ) → r ≡ o + 7 + 2 * length (action_read (drop o s)).successors → r ≡ action_offset p i (k + 1)
      action-after r e =
          let n = action-next p cells i lt (actions_at p i) node-is k lk in
          let m : length (action_read (drop o s)).successors ≡ length (action_at (actions_at p i) k).successors =
          ap (λ (a : Action). length a.successors) action-is in
          rw add-one (omega arith)

  -- whether there is any
  pub some-action : (o : ℕ) → o ≡ action_offset p i 0 → eqb (get_or s o 0) action_tag ≡ ltb 0 (length (actions_at p i))
  some-action o here = go (eqb (get_or s o 0) action_tag) refl
    where
      go : (b : Bool) → eqb (get_or s o 0) action_tag ≡ b → b ≡ ltb 0 (length (actions_at p i))
      go true e = sym (lt-ltb 0 (length (actions_at p i)) (action-stands 0 o here (omega arith) e))
      go false e = sym (le-ltb 0 (length (actions_at p i)) (action-ends 0 o here e))

-- of numbers that are all below n, the first is, and so are the others
pub below-first : {n t : ℕ} {ts us : List ℕ} → ts ≡ t ∷ us → Below n ts → t < n
below-first e h = (rw e at h) 0 (omega arith)

pub below-rest : {n t : ℕ} {ts us : List ℕ} → ts ≡ t ∷ us → Below n ts → Below n us
below-rest e h j lt = (rw e at h) (suc j) (omega arith)

-- four bytes stored, as a piece of the list
put32-front : (r : List ℕ) (x : ℕ) → 4 ≤ length r →
    put32 r 0 x ≡ (x / 16777216 ∷ x / 65536 % 256 ∷ x / 256 % 256 ∷ x % 256 ∷ []) ++ drop 4 r
unfolding put32
put32-front (a ∷ b ∷ c ∷ d ∷ r) x le = refl
put32-front (a ∷ b ∷ c ∷ []) x le = absurd (omega arith)
put32-front (a ∷ b ∷ []) x le = absurd (omega arith)
put32-front (a ∷ []) x le = absurd (omega arith)
put32-front [] x le = absurd (omega arith)

-- numbers of two bytes do not look behind their own bytes
two-taken : (m : ℕ) (r : List ℕ) → 2 ≤ m → be16 (take m r) 0 ≡ be16 r 0
unfolding be16
two-taken m r le = rw (get_or-take m r 0 0 (omega arith), get_or-take m r 1 0 (omega arith)) refl

read-taken : (n m : ℕ) (r : List ℕ) → 2 * n ≤ m → successors_read n (take m r) ≡ successors_read n r
unfolding successors_read
read-taken zero m r le = refl
read-taken (suc n) m r le =
    let split : m ≡ 2 + (m - 2) = omega arith in
    let rest : drop 2 (take m r) ≡ take (m - 2) (drop 2 r) = ap (λ (k : ℕ). drop 2 (take k r)) split ∙ drop-take 2 (m - 2) r in
    rw (rest, read-taken n (m - 2) (drop 2 r) (omega arith), two-taken m r (omega arith)) refl

-- the successors in the bytes of an action's field
pub successors-there : (bs : List ℕ) (o : ℕ) → action_fits (drop o bs) ≡ true → (e : ℕ) → e ≡ o + 3 + be16 bs (o + 1) →
    (let pairs = take (e - (o + 7)) (drop (o + 7) bs) in successors_read (length pairs / 2) pairs) ≡ (action_read (drop o bs)).successors
unfolding action_read
successors-there bs o fits e is =
    let room = content-of bs o fits in
    let m : e - (o + 7) ≡ be16 bs (o + 1) - 4 = omega arith in
    let long : length (take (e - (o + 7)) (drop (o + 7) bs)) ≡ be16 bs (o + 1) - 4 =
    rw (length-take, length-drop) (omega (arith, room)) in
    ap (λ (k : ℕ). successors_read (k / 2) (take (e - (o + 7)) (drop (o + 7) bs))) long ∙
    read-taken ((be16 bs (o + 1) - 4) / 2) (e - (o + 7)) (drop (o + 7) bs) (omega (arith, m)) ∙ rw (be16-from, drop-drop) refl

-- each of them is a number of two bytes
two-below : (bs : List ℕ) (k : ℕ) → ((i : ℕ) → get_or bs i 0 < 256) → be16 bs k < 65536
unfolding be16
two-below bs k byte = omega (arith, byte k, byte (k + 1))

pub successors-small : (bs : List ℕ) (o : ℕ) → action_fits (drop o bs) ≡ true → ((i : ℕ) → get_or bs i 0 < 256) →
    Below 65536 (action_read (drop o bs)).successors
successors-small bs o fits byte j lt = rw (successor-of bs o fits j lt) (two-below bs (o + 7 + 2 * j) byte)

-- one of them read, with two bytes or more
pub put32-bytes : (s : List ℕ) (o x : ℕ) → o + 4 ≤ length s →
    put32 s o x ≡ take o s ++ ((x / 16777216 ∷ x / 65536 % 256 ∷ x / 256 % 256 ∷ x % 256 ∷ []) ++ drop 4 (drop o s))
put32-bytes s o x le =
    let long : 4 ≤ length (drop o s) = rw length-drop (omega arith) in
    let same : o + 0 ≡ o = omega arith in
    rw same at (put32-from s o 0 x) ∙ rw (put32-front (drop o s) x long) refl

pub read-none : (ps : List ℕ) → length ps < 2 → successors_read (length ps / 2) ps ≡ []
unfolding successors_read
read-none ps lt = let none : length ps / 2 ≡ 0 = omega arith in rw none refl

pub read-one : (ps : List ℕ) → 2 ≤ length ps →
    (let rest = take (length ps - 2) (drop 2 ps) in
    successors_read (length ps / 2) ps ≡ be16 ps 0 ∷ successors_read (length rest / 2) rest)
unfolding successors_read
read-one ps le =
    let all : take (length ps - 2) (drop 2 ps) ≡ drop 2 ps = take_rest ps 2 in
    let one : length ps / 2 ≡ suc (length (drop 2 ps) / 2) = rw length-drop (omega arith) in
    rw (all, one) refl

-- An action at its place, known by its fields or by its value.
module _ {bs : List ℕ} {o : ℕ} {a : Place} (e : record { bytes = bs; at = o } ≡ a) where
  pub place-at : o ≡ a.at
  place-at = ap (λ (p : Place). p.at) e

  pub place-bytes : bs ≡ a.bytes
  place-bytes = ap (λ (p : Place). p.bytes) e

  pub place-says : action_read (drop o bs) ≡ action_of a
  place-says = rw (place-at, place-bytes) refl

  module _ (fits : action_fits (drop o bs) ≡ true) where
    -- its content, its successors and its cost, in the bytes
    pub place-content : (min_action_length ≤ be16 bs (o + 1)) × (be16 bs (o + 1) ≤ max_action_length) ×
        (o + 3 + be16 bs (o + 1) ≤ length bs)
    place-content = omega (arith, content-of bs o fits)

    pub place-count : (1 ≤ length (action_of a).successors) × (length (action_of a).successors ≤ max_successors) ×
        (2 * length (action_of a).successors + 4 ≡ be16 bs (o + 1))
    place-count =
        let says = ap (λ (x : Action). length x.successors) place-says in omega (arith, says, content-of bs o fits, count_of bs o fits)

-- A walk over the actions of a decision: what its next action is, where it stands.
module _ {w : Walk} {at : ℕ} (h : Walks w at) where
  is-sheet : Sheet w.bytes h.in_place.table (problem_of w.bytes) (cells_of w.bytes)
  is-sheet = h.in_place.sheet

  pub walk-few : length (walked w) ≤ max_actions
  walk-few = few-actions is-sheet w.state h.decision.below h.decision.tag

  pub walk-ends : eqb (get_or w.bytes at 0) action_tag ≡ false → w.index ≡ length (walked w)
  walk-ends e = omega (arith, h.upto, action-ends is-sheet w.state h.decision.below h.decision.tag w.index at h.place e)

  module _ (e : eqb (get_or w.bytes at 0) action_tag ≡ true) where
    pub walk-more : w.index < length (walked w)
    walk-more = action-stands is-sheet w.state h.decision.below h.decision.tag w.index at h.place h.upto e

    pub walk-fits : action_fits (drop at w.bytes) ≡ true
    walk-fits = action-in-place is-sheet w.state h.decision.below h.decision.tag w.index at h.place walk-more

    pub walk-comes : {a : Place} → a.bytes ≡ w.bytes → a.at ≡ at →
        Comes w a (record { bytes = w.bytes; state = w.state; index = w.index + 1 })
    walk-comes bytes here = record {
      more = walk-more;
      is = rw (bytes, here) (action-is is-sheet w.state h.decision.below h.decision.tag w.index at h.place walk-more);
      bytes = bytes;
      at = here ∙ h.place;
      then = refl;
    }

    pub walk-on : (next : ℕ) → next ≡ at + 7 + 2 * length (action_read (drop at w.bytes)).successors →
        Walks (record { bytes = w.bytes; state = w.state; index = w.index + 1 }) next
    walk-on next after = record {
      in_place = h.in_place;
      decision = h.decision;
      upto = omega (arith, walk-more);
      place = action-after is-sheet w.state h.decision.below h.decision.tag w.index at h.place walk-more next after;
    }
