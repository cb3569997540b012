-- What is written reads back.
use Prim.Native.Nat.{ℕ, zero, suc, ◌+◌, ◌-◌, ◌/◌, ◌<◌, ◌≤◌}
use mathlib.Core.Path.{◌≡◌, refl, ap, sym, subst}
use mathlib.Core.Bool.{true}
use mathlib.Core.List.{List, [], ◌∷◌, ◌++◌, append_assoc}
use native.Mathlib.Omega.{arith}
use borrow.Author.Tests.{eq-eqb, ne_eqb, le-leb, lt-ltb}
use lib.ListN.{length, get_or, drop, length-append}
use lib.Seq.{drop_at, drop-drop}
use Rattle.model.proofs.TestLaws.{true-all}
use Rattle.model.specs.Tests.{also, all}
use Rattle.model.specs.Problem.{Kind, worst, whole, Action, Form, plain, counted, Node, terminal, decision, Problem, Cell, cell}
use Rattle.model.specs.Problem.{states, cell_of}
use Rattle.model.specs.Format.{be16, be32, terminal_tag, decision_tag, action_tag, terminal_length, decision_length, action_length}
use Rattle.model.specs.Format.{successors_bytes, action_bytes, actions_bytes, form_bytes, node_bytes}
use Rattle.model.specs.Format.{head_tag, nodes_bytes, kind_byte, write}
use Rattle.model.specs.Limits.{max_states, max_actions}
use Rattle.model.specs.Read.{action_fits, successors_read, action_read, actions_good, actions_read, actions_long}
use Rattle.model.specs.Read.{past_actions, field_fits, form_read, header_fits, decision_fits, nodes_good, nodes_read, cells_read, kind_of}
use Rattle.model.specs.Read.{problem_of, cells_of}
use Rattle.model.specs.Questions.{question3, question4}
use Rattle.layout.specs.Shape.{FewSuccessors, ActionsShaped, NodesShaped, ChosenShaped, Shaped}
use Rattle.layout.proofs.Bytes.{two, four}
use Rattle.layout.proofs.Places.{action-length, past-header, other_tag, no-action}

-- The byte of a kind.
pub kind-back : (k : Kind) → kind_of (kind_byte k) ≡ k
unfolding kind_of kind_byte
kind-back worst = refl
kind-back whole = refl

kind-small : (k : Kind) → kind_byte k ≤ 1
unfolding kind_byte
kind-small worst = omega arith
kind-small whole = omega arith

successors-back : (ts r : List ℕ) → successors_read (length ts) (successors_bytes ts ++ r) ≡ ts
unfolding successors_read successors_bytes be16
successors-back [] r = refl
successors-back (t ∷ ts) r = rw (two t, successors-back ts r)

-- One action's field, with r behind it.
module _ (a : Action) (r : List ℕ) where
  content : be16 (action_bytes a ++ r) 1 ≡ action_length a
  unfolding be16
  content = two _

  action-rest : drop (3 + be16 (action_bytes a ++ r) 1) (action_bytes a ++ r) ≡ r
  action-rest = rw content (drop_at (action_bytes a) r (3 + action_length a) (omega (arith, action-length a)))

  pub action-back : action_read (action_bytes a ++ r) ≡ a
  unfolding be32 action_read
  action-back =
      let n : (action_length a - 4) / 2 ≡ length a.successors = omega arith in
      rw (content, n, successors-back a.successors r, four a.cost)

  pub action-fits : FewSuccessors a.successors → action_fits (action_bytes a ++ r) ≡ true
  unfolding action_fits
  action-fits few = let c = content in true-all _ (omega (arith, le-leb, eq-eqb, action-length a, length-append (action_bytes a) r))

-- Actions, with r behind the last: they are in place, they read back, and r is what follows them.
module _ (r : List ℕ) (none : get_or r 0 0 ≡ action_tag → ⊥) where
  actions-back : (m : ℕ) (acts : List Action) → length acts ≤ m → ActionsShaped acts →
      (actions_good m (actions_bytes acts ++ r) ≡ true) × (actions_read m (actions_bytes acts ++ r) ≡ acts) ×
      (past_actions m (actions_bytes acts ++ r) ≡ r)
  unfolding actions_good actions_read actions_long actions_bytes also
  actions-back zero [] le h = (rw (ne_eqb (get_or r 0 0) action_tag none), refl, refl)
  actions-back zero (a ∷ more) le h = absurd (omega arith)
  actions-back (suc m) [] le h = rw (ne_eqb (get_or r 0 0) action_tag none) (refl, refl, refl)
  actions-back (suc m) (a ∷ more) le h =
      let rest = actions_bytes more ++ r in
      let next = action-rest a rest in
      let (good, read, past) = actions-back m more (omega arith) h.1 in
      rw (append_assoc, action-fits a rest h.0, action-back a rest, next, ← drop-drop (actions_long m rest), next, read)
      (good, refl, past)

-- One state's field, with r behind it.
terminal-fits : (cost : ℕ) (c : Cell) (r : List ℕ) → field_fits terminal_length (node_bytes (terminal cost) c ++ r) ≡ true
unfolding field_fits node_bytes be16 all
terminal-fits cost c r = rw (le-leb 12 (length (node_bytes (terminal cost) c ++ r)) (omega arith))

form-back : (form : Form) (acts : List Action) (c : Cell) (r : List ℕ) → form_read (node_bytes (decision form acts) c ++ r) ≡ form
unfolding form_read node_bytes decision_tag form_bytes
form-back plain acts c r = refl
form-back (counted n) acts c r = refl

header-fits : (form : Form) (acts : List Action) (c : Cell) (r : List ℕ) → header_fits (node_bytes (decision form acts) c ++ r) ≡ true
unfolding header_fits field_fits form_read node_bytes decision_tag decision_length form_bytes be16 all also
header-fits plain acts c r = rw (le-leb 9 (length (node_bytes (decision plain acts) c ++ r)) (omega arith))
header-fits (counted n) acts c r = rw (le-leb 10 (length (node_bytes (decision (counted n) acts) c ++ r)) (omega arith))

-- States: they are in place, and their nodes and their cells read back.
abbrev NodesBack : List Node → List Cell → Type 0
NodesBack ns cells =
    (nodes_good (length ns) (nodes_bytes ns cells) ≡ true) × (nodes_read (length ns) (nodes_bytes ns cells) ≡ ns) ×
    (cells_read (length ns) (nodes_bytes ns cells) ≡ cells)

nodes-back : (ns : List Node) (cells : List Cell) → length cells ≡ length ns → NodesShaped ns →
    ((s : ℕ) → s < length ns → ChosenShaped (get_or ns s (terminal 0)) (cell_of cells s)) → NodesBack ns cells
unfolding nodes_good nodes_read cells_read nodes_bytes node_bytes decision_fits be32 also
nodes-back [] [] e h ch = (refl, refl, refl)
nodes-back [] (c ∷ cells) e h ch = absurd (omega arith)
nodes-back (n ∷ ns) [] e h ch = absurd (omega arith)
nodes-back (terminal cost ∷ ns) (c ∷ cells) e h ch =
    let ih = nodes-back ns cells (omega arith) h.1 (λ s lt. ch (suc s) (omega arith)) in
    let z : c.chosen ≡ 0 = ch 0 (omega arith) in
    rw (terminal-fits cost c (nodes_bytes ns cells), four cost, four c.value, ih.1, ih.2)
    (ih.0, refl, ap (λ (i : ℕ). cell c.value c.mark i ∷ cells) (sym z))
nodes-back (decision form acts ∷ ns) (c ∷ cells) e h ch =
    let rest = nodes_bytes ns cells in
    let ih = nodes-back ns cells (omega arith) h.1 (λ s lt. ch (suc s) (omega arith)) in
    let a = actions-back rest (no-action ns cells) max_actions acts h.0.0 h.0.1 in
    let tag = ne_eqb _ _ (other_tag form terminal_tag refl) in
    rw (header-fits form acts c rest, form-back form acts c rest, past-header form acts c rest, tag, a.0, a.1, a.2)
    (rw (four c.value, ih.1, ih.2) (ih.0, refl, refl))

module _ (p : Problem) (cells : List Cell) (h : Shaped p cells) where
  body : NodesBack p.nodes cells
  body = nodes-back p.nodes cells h.count h.nodes h.chosen

  pub problem-back : problem_of (write p cells) ≡ p
  unfolding problem_of write be16
  problem-back = rw (two (states p), two p.start, kind-back p.kind, body.1)

  pub cells-back : cells_of (write p cells) ≡ cells
  unfolding cells_of write be16
  cells-back = rw (two (states p)) body.2

  pub head-good : question3 p.head max_states (write p cells) ≡ true
  unfolding question3 write be16
  head-good = true-all _ (eq-eqb p.head p.head refl, (refl, omega (arith, le-leb, lt-ltb, kind-small p.kind)))

  -- the same by the tag that an ordinary head has
  pub ordinary-good : p.head ≡ head_tag → question3 head_tag max_states (write p cells) ≡ true
  ordinary-good e = subst (λ (t : ℕ). question3 t max_states (write p cells) ≡ true) e head-good

  pub body-good : question4 (write p cells) ≡ true
  unfolding question4 write be16
  body-good = rw (two (states p)) body.0
