-- A written sheet without the field of one action: it is what the problem without that action writes.
use Prim.Native.Nat.{ℕ, zero, suc, ◌+◌, ◌<◌, ◌≤◌}
use mathlib.Core.Path.{◌≡◌, refl, ap, sym, ◌∙◌}
use mathlib.Core.Bool.{Bool, true, false}
use mathlib.Core.List.{List, [], ◌∷◌, ◌++◌, append_assoc}
use native.Mathlib.Omega.{arith}
use native.Mathlib.Nat.{add_assoc}
use lib.Dec.{eqb}
use borrow.Author.Tests.{eqb-true, eqb-false}
use lib.ListN.{length, set, take, drop, length-append, length-set, length-drop, length-take}
use lib.Seq.{take-add, take-append-add, drop-append_seam, drop-drop, get_or-set_same, get_or-set_other}
use Rattle.model.specs.Problem.{Action, Form, Node, terminal, decision, Problem, Cell, cell, states, node_at}
use Rattle.model.specs.Problem.{action_at, cell_of}
use Rattle.model.specs.Format.{action_bytes, actions_bytes, form_bytes, node_bytes, nodes_bytes, head_bytes, write, action_size}
use Rattle.model.specs.Format.{decision_size, action_place, node_place, offset, actions_of, form_of, action_offset}
use Rattle.layout.specs.Shape.{ActionsShaped, NodeShaped, NodesShaped, ChosenShaped, Shaped}
use Rattle.layout.proofs.Places.{action-length, form-length, node-length, behind}
use Rattle.layout.proofs.Fields.{from-state, from-action-at}
use Rattle.layout.proofs.Shapes.{node-shaped}

-- Lists of actions: the bytes of two, and what stands before action i.
actions-append : (xs ys : List Action) → actions_bytes (xs ++ ys) ≡ actions_bytes xs ++ actions_bytes ys
unfolding actions_bytes
actions-append [] ys = refl
actions-append (a ∷ xs) ys = rw (actions-append xs ys, append_assoc (action_bytes a))

until-action : (acts : List Action) (r : List ℕ) (i : ℕ) → i ≤ length acts →
    take (action_place acts i) (actions_bytes acts ++ r) ≡ actions_bytes (take i acts)
unfolding action_place actions_bytes
until-action acts r zero le = refl
until-action [] r (suc i) le = absurd (omega arith)
until-action (a ∷ more) r (suc i) le =
    rw (← action-length a, append_assoc, take-append-add (action_bytes a) (actions_bytes more ++ r), until-action more r i (omega arith))

-- a decision's own field, and its actions behind it
pub own-field : (form : Form) (acts : List Action) (c : Cell) →
    node_bytes (decision form acts) c ≡ node_bytes (decision form []) c ++ actions_bytes acts
unfolding node_bytes actions_bytes
own-field form acts c = simp append_assoc refl

pub own-length : (form : Form) (c : Cell) → length (node_bytes (decision form []) c) ≡ decision_size form
unfolding node_bytes actions_bytes
own-length form c = omega (arith, form-length form, length-append (form_bytes form) [])

-- another node in the place of state s
other-node : (ns : List Node) (cells : List Cell) (s : ℕ) (n : Node) → s < length ns →
    nodes_bytes (set ns s n) cells ≡ take (node_place ns s) (nodes_bytes ns cells) ++ (node_bytes n (cell_of cells s) ++ behind ns cells s)
unfolding node_place nodes_bytes
other-node [] cells s n lt = absurd (omega arith)
other-node (m ∷ ns) [] zero n lt = refl
other-node (m ∷ ns) (c ∷ cells) zero n lt = refl
other-node (m ∷ ns) [] (suc s) n lt =
    rw (← node-length m (cell 0 0 0), take-append-add, append_assoc, other-node ns [] s n (omega arith))
other-node (m ∷ ns) (c ∷ cells) (suc s) n lt =
    rw (← node-length m c, take-append-add, append_assoc, other-node ns cells s n (omega arith))

-- some actions without number i
abbrev pub less_action : List Action → ℕ → List Action
less_action acts i = take i acts ++ drop (suc i) acts

pub less-length : (acts : List Action) (i : ℕ) → i < length acts → suc (length (less_action acts i)) ≡ length acts
less-length acts i lt = rw (length-append, length-take, length-drop) (omega arith)

-- the problem p without action i of decision s
abbrev pub less_problem : Problem → ℕ → Form → List Action → ℕ → Problem
less_problem p s form acts i =
    record { head = p.head; kind = p.kind; start = p.start; nodes = set p.nodes s (decision form (less_action acts i)) }

module _ (p : Problem) (cells : List Cell) (s : ℕ) (lt : s < states p) {form : Form} (acts : List Action)
    (is : node_at p s ≡ decision form acts) (i : ℕ) (li : i < length acts) where
  -- the own field of the decision
  abbrev field : List ℕ
  field = node_bytes (decision form []) (cell_of cells s)

  before : take (action_offset p s i) (write p cells) ≡ take (offset p s) (write p cells) ++ (field ++ actions_bytes (take i acts))
  unfolding action_offset actions_of form_of
  before =
      rw (is, add_assoc, take-add, from-state p cells s lt, is, own-field, append_assoc, ← own-length form (cell_of cells s))
      (rw take-append-add
      (ap (λ (l : List ℕ). take (offset p s) (write p cells) ++ (field ++ l))
      (until-action acts (behind p.nodes cells s) i (omega arith))))

  after : drop (action_offset p s i + action_size (action_at acts i)) (write p cells) ≡
      actions_bytes (drop (suc i) acts) ++ behind p.nodes cells s
  after =
      rw (← drop-drop, from-action-at p cells s lt acts is i li, ← action-length (action_at acts i))
      (drop-append_seam (action_bytes (action_at acts i)) _)

  pub without-action : take (action_offset p s i) (write p cells) ++
      drop (action_offset p s i + action_size (action_at acts i)) (write p cells) ≡
      write (less_problem p s form acts i) cells
  unfolding write offset
  without-action =
      let own = own-field form (less_action acts i) (cell_of cells s) in
      rw (before, after, length-set, other-node p.nodes cells s _ lt, own, actions-append, take-append-add (head_bytes p))
      (simp append_assoc refl)

-- It has the shape that reads back.
actions-less : (acts : List Action) (i : ℕ) → ActionsShaped acts → ActionsShaped (less_action acts i)
actions-less [] zero h = tt
actions-less [] (suc i) h = tt
actions-less (a ∷ more) zero h = h.1
actions-less (a ∷ more) (suc i) h = (h.0, actions-less more i h.1)

nodes-other : (ns : List Node) (s : ℕ) (n : Node) → NodesShaped ns → NodeShaped n → NodesShaped (set ns s n)
nodes-other [] s n h g = tt
nodes-other (m ∷ ns) zero n h g = (g, h.1)
nodes-other (m ∷ ns) (suc s) n h g = (h.0, nodes-other ns s n h.1 g)

module _ (p : Problem) (cells : List Cell) (h : Shaped p cells) (s : ℕ) (lt : s < states p) {form : Form} (acts : List Action)
    (is : node_at p s ≡ decision form acts) (i : ℕ) (li : i < length acts) where
  pub less-node : node_at (less_problem p s form acts i) s ≡ decision form (less_action acts i)
  less-node = get_or-set_same p.nodes s _ (terminal 0) lt

  pub less-shaped : Shaped (less_problem p s form acts i) cells
  less-shaped =
      let count = length-set p.nodes s (decision form (less_action acts i)) in
      let shape = rw is at (node-shaped p.nodes h.nodes s) in
      record {
        some = rw count h.some;
        most = rw count h.most;
        start = rw count h.start;
        nodes = nodes-other p.nodes s _ h.nodes (omega (arith, less-length acts i li), actions-less acts i shape.1);
        count = h.count ∙ sym count;
        chosen = λ j lj. by j (rw count at lj) (eqb j s) refl;
      }
    where
      by : (j : ℕ) → j < states p → (b : Bool) → eqb j s ≡ b → ChosenShaped (node_at (less_problem p s form acts i) j) (cell_of cells j)
      by j lj true e = rw (eqb-true j s e, less-node) tt
      by j lj false e = rw (get_or-set_other p.nodes s j _ (terminal 0) (eqb-false j s e)) (h.chosen j lj)
