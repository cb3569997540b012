-- A draft whose findings are above their junctions already: the new sheet differs in its head's tag alone.
use Prim.Native.Nat.{ℕ, zero, suc, ◌+◌, ◌<◌}
use mathlib.Core.Path.{◌≡◌, refl, sym, ap, ◌∙◌}
use mathlib.Core.Bool.{true}
use mathlib.Core.List.{List, [], ◌∷◌, map}
use native.Mathlib.Omega.{arith}
use lib.ListN.{length, get_or, drop, length-map}
use lib.Seq.{ext_get_or}
use Rattle.model.proofs.TestLaws.{every_true}
use Rattle.model.specs.Format.{head_tag, write}
use Rattle.model.specs.Problem.{Action, action, Node, terminal, decision, Problem, Cell, cell, states, node_at, action_at, cell_of, ◌∈◌}
use Rattle.model.specs.Problem.{here, there}
use Rattle.model.specs.Questions.{apart, ascending, successors_in_order, question6_draft}
use Rattle.layout.proofs.Shapes.{ascending-in}
use Rattle.order.proofs.Back.{draft-at}
use Rattle.order.proofs.Costs.{get_d_map}
use Rattle.order.proofs.Sorting.{ascending-sorted}
use Rattle.order.specs.Claims.{Perm}
use Rattle.order.specs.Moved.{sorted, at, moved_action, moved_node, moved, moved_cells}
use Rattle.order.specs.Order.{up_from}

pub from_at : (s n i : ℕ) → i < n → at (up_from s n) i ≡ s + i
unfolding up_from
from_at s zero i l = absurd (omega arith)
from_at s (suc n) zero l = omega arith
from_at s (suc n) (suc i) l = from_at (suc s) n i (omega arith) ∙ omega arith

-- By numbers that give every number below n itself, findings that are in order stay as they are.
module _ (n : ℕ) (to : List ℕ) (still : (t : ℕ) → t < n → at to t ≡ t) where
  map-still : (ts : List ℕ) → ((t : ℕ) → t ∈ ts → t < n) → map (at to) ts ≡ ts
  map-still [] below = refl
  map-still (t ∷ ts) below = let e = still t (below t here) in let r = map-still ts (λ u m. below u (there m)) in cc

  actions-still : (d low : ℕ) (acts : List Action) → ((i : ℕ) → i < length acts → ascending d low n (action_at acts i).successors ≡ true) →
      map (moved_action to) acts ≡ acts
  actions-still d low [] ord = refl
  actions-still d low (a ∷ more) ord =
      let own = ord 0 (omega arith) in
      let e : moved_action to a ≡ a = ap (action a.cost) (
      ap sorted (map-still a.successors (λ t m. (ascending-in d low n a.successors own t m).1)) ∙
      ascending-sorted d low n a.successors own) in
      let r = actions-still d low more (λ i l. ord (suc i) (omega arith)) in cc

  node-still : (d low : ℕ) (node : Node) → successors_in_order d low n node ≡ true → moved_node to node ≡ node
  unfolding moved_node successors_in_order
  node-still d low (terminal cost) ord = refl
  node-still d low (decision form acts) ord = ap (decision form) (actions-still d low acts (every_true (length acts) _ ord))

module _ (p : Problem) (from to : List ℕ) (h : Perm (states p) from to) (still : (s : ℕ) → s < states p → at from s ≡ s) where
  back-still : (t : ℕ) → t < states p → at to t ≡ t
  back-still t l = ap (at to) (sym (still t l)) ∙ h.to_from t l

  nodes-still : question6_draft p ≡ true → map (λ s. moved_node to (node_at p s)) from ≡ p.nodes
  nodes-still six = ext_get_or (terminal 0) _ _ (length-map from _ ∙ h.from_length) each
    where
      each : (i : ℕ) → i < length (map (λ s. moved_node to (node_at p s)) from) →
          get_or (map (λ s. moved_node to (node_at p s)) from) i (terminal 0) ≡ node_at p i
      each i l =
          let il : i < states p = omega (arith, length-map from (λ s. moved_node to (node_at p s)), h.from_length) in
          get_d_map (λ s. moved_node to (node_at p s)) from i 0 (terminal 0) (omega (arith, h.from_length)) ∙
          ap (λ (s : ℕ). moved_node to (node_at p s)) (still i il) ∙
          node-still (states p) to back-still (apart p.kind) 0 (node_at p i) (draft-at p six i il)

  pub cells-still : (cells : List Cell) → length cells ≡ states p → moved_cells from cells ≡ cells
  unfolding moved_cells
  cells-still cells count = ext_get_or (cell 0 0 0) _ _ (length-map from _ ∙ (h.from_length ∙ sym count)) each
    where
      each : (i : ℕ) → i < length (map (λ s. cell_of cells s) from) → get_or (map (λ s. cell_of cells s) from) i (cell 0 0 0) ≡
          cell_of cells i
      each i l =
          let il : i < states p = omega (arith, length-map from (λ s. cell_of cells s), h.from_length) in
          get_d_map (λ s. cell_of cells s) from i 0 (cell 0 0 0) (omega (arith, h.from_length)) ∙ ap (cell_of cells) (still i il)

  -- so the bytes differ in the first one alone
  pub bytes-still : question6_draft p ≡ true → p.start < states p → (cells : List Cell) → length cells ≡ states p →
      write (moved head_tag from to p) (moved_cells from cells) ≡ head_tag ∷ drop 1 (write p cells)
  unfolding moved write
  bytes-still six start cells count = rw (nodes-still six, cells-still cells count, back-still p.start start)
