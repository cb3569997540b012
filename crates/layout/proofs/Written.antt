-- A problem and cells that get a yes to questions 4, 10 and 5, and whose findings are stages, are written in bytes.
use Prim.Native.Nat.{ℕ, suc, ◌<◌, ◌≤◌}
use mathlib.Core.Path.{◌≡◌, refl}
use mathlib.Core.Bool.{Bool, true, false}
use mathlib.Core.List.{List, [], ◌∷◌, ◌++◌}
use native.Mathlib.Omega.{arith}
use borrow.Author.Tests.{leb-true, ltb-true, eqb-true}
use lib.Dec.{eqb, ltb}
use lib.ListN.{length, get_or}
use Rattle.model.proofs.TestLaws.{all_true, every_true}
use Rattle.model.specs.Tests.{fork}
use Rattle.model.specs.Limits.{max_actions, max_cost, ceiling}
use Rattle.model.specs.Problem.{Kind, worst, whole, Action, Form, plain, counted, Node, terminal, decision, Problem, Cell, states, node_at}
use Rattle.model.specs.Problem.{action_at, cell_of, solved, ◌∈◌, here, there}
use Rattle.model.specs.Format.{Bytes, bytes2, bytes4, decision_tag, decision_length, action_length, successors_bytes, action_bytes}
use Rattle.model.specs.Format.{actions_bytes, form_bytes, node_bytes, nodes_bytes, kind_byte, write}
use Rattle.model.specs.Questions.{count_is, count_right, question10, costs_in_range, chosen_in_range, cell_in_range, question5}
use Rattle.layout.specs.Shape.{FewSuccessors, ActionsShaped, NodeShaped, ChosenShaped, Shaped, Inside}
use Rattle.layout.proofs.Shapes.{node-shaped}
use Rattle.layout.proofs.Stay.{AllBytes, at_byte}

small-append : (xs ys : List ℕ) → AllBytes xs → AllBytes ys → AllBytes (xs ++ ys)
small-append [] ys a b = b
small-append (x ∷ xs) ys a b = (a.0, small-append xs ys a.1 b)

small2 : (x : ℕ) → x < 65536 → AllBytes (bytes2 x)
small2 x l = (omega arith, (omega arith, tt))

small4 : (x : ℕ) → x < 4294967296 → AllBytes (bytes4 x)
small4 x l = (omega arith, (omega arith, (omega arith, (omega arith, tt))))

small-findings : (ts : List ℕ) → ((t : ℕ) → t ∈ ts → t < 65536) → AllBytes (successors_bytes ts)
unfolding successors_bytes
small-findings [] h = tt
small-findings (t ∷ ts) h = small-append (bytes2 t) (successors_bytes ts) (small2 t (h t here)) (small-findings ts (λ u m. h u (there m)))

small-action : (a : Action) → FewSuccessors a.successors → a.cost ≤ max_cost → ((t : ℕ) → t ∈ a.successors → t < 65536) → AllBytes
    (action_bytes a)
small-action a few cost h = (
  omega arith,
  small-append (bytes2 (action_length a)) (bytes4 a.cost ++ successors_bytes a.successors)
      (small2 (action_length a) (omega (arith, few.1)))
      (small-append (bytes4 a.cost) (successors_bytes a.successors) (small4 a.cost (omega arith))
      (small-findings a.successors h)),
)

small-actions : (acts : List Action) → ActionsShaped acts → ((i : ℕ) → i < length acts → (action_at acts i).cost ≤ max_cost) →
    ((i t : ℕ) → i < length acts → t ∈ (action_at acts i).successors → t < 65536) → AllBytes (actions_bytes acts)
unfolding actions_bytes
small-actions [] sh cost h = tt
small-actions (a ∷ more) sh cost h =
    small-append (action_bytes a) (actions_bytes more) (small-action a sh.0 (cost 0 (omega arith)) (λ t m. h 0 t (omega arith) m))
    (small-actions more sh.1 (λ i l. cost (suc i) (omega arith)) (λ i t l m. h (suc i) t (omega arith) m))

chosen-small : (n : Node) (c : Cell) → NodeShaped n → chosen_in_range n c ≡ true → ChosenShaped n c → c.chosen < 256
unfolding chosen_in_range
chosen-small (terminal cost) c sh r ch = omega (arith, ch)
chosen-small (decision form []) c sh r ch = omega (arith, eqb-true c.chosen 0 r)
chosen-small (decision form (a ∷ more)) c sh r ch = go (solved c) r
  where
    go : (b : Bool) → fork b (λ _. ltb c.chosen (length (a ∷ more))) (λ _. eqb c.chosen 0) ≡ true → c.chosen < 256
    go true r = omega (arith, ltb-true c.chosen (length (a ∷ more)) r, sh.0)
    go false r = omega (arith, eqb-true c.chosen 0 r)

-- a junction's tag and length, and the number that it writes where that is right
form_small : (form : Form) → (decision_tag form < 256) × (decision_length form < 256)
unfolding decision_tag decision_length
form_small plain = (omega arith, omega arith)
form_small (counted n) = (omega arith, omega arith)

count_small : (form : Form) (n : ℕ) → n ≤ max_actions → count_is form n ≡ true → AllBytes (form_bytes form)
unfolding form_bytes count_is
count_small plain n le h = tt
count_small (counted m) n le h = (omega (arith, eqb-true m n h), tt)

small-node : (n : Node) (c : Cell) → NodeShaped n → count_right n ≡ true → costs_in_range n ≡ true → cell_in_range n c ≡ true →
    ChosenShaped n
    c →
    ((form : Form) (acts : List Action) (i t : ℕ) → n ≡ decision form acts → t ∈ (action_at acts i).successors → t < 65536) →
    AllBytes (node_bytes n c)
unfolding node_bytes costs_in_range cell_in_range ceiling count_right
small-node (terminal cost) c sh ten five range ch h =
    let (value, (mark, _)) = all_true _ range in
    let v : c.value ≤ 1000000001 = leb-true _ _ value in
    let co : cost ≤ 1000000 = leb-true _ _ five in (
      omega arith,
      (
        omega arith,
        (
          omega arith,
          small-append (bytes4 cost) (bytes4 c.value ++ (c.mark ∷ [])) (small4 cost (omega arith))
              (small-append (bytes4 c.value) (c.mark ∷ []) (small4 c.value (omega arith))
              (omega (arith, leb-true c.mark 1 mark), tt)),
        ),
      ),
    )
small-node (decision form acts) c sh ten five range ch h =
    let (value, (mark, (chosen, _))) = all_true _ range in
    let v : c.value ≤ 1000000001 = leb-true _ _ value in
    let (tag, long) = form_small form in (
      tag,
      (
        omega arith,
        (
          long,
          small-append (bytes4 c.value) (c.mark ∷ c.chosen ∷ form_bytes form ++ actions_bytes acts) (small4 c.value (omega arith)) (
            omega (arith, leb-true c.mark 1 mark),
            (
              chosen-small (decision form acts) c sh chosen ch,
              small-append (form_bytes form) (actions_bytes acts) (count_small form (length acts) sh.0 ten)
                  (small-actions acts sh.1 (λ i l. leb-true _ _ (all_true _ (every_true (length acts) _ five i l)).1.0)
                  (λ i t l m. h form acts i t refl m)),
            ),
          ),
        ),
      ),
    )

small-nodes : (ns : List Node) (cells : List Cell) → length cells ≡ length ns →
    ((s : ℕ) → s < length ns → AllBytes (node_bytes (get_or ns s (terminal 0)) (cell_of cells s))) → AllBytes (nodes_bytes ns cells)
unfolding nodes_bytes
small-nodes [] cells e h = tt
small-nodes (n ∷ ns) [] e h = absurd (omega arith)
small-nodes (n ∷ ns) (c ∷ cells) e h = small-append (node_bytes n c) (nodes_bytes ns cells) (h 0 (omega arith))
    (small-nodes ns cells (omega arith) (λ s l. h (suc s) (omega arith)))

kind-small : (k : Kind) → kind_byte k < 256
unfolding kind_byte
kind-small worst = omega arith
kind-small whole = omega arith

pub written-bytes : (p : Problem) (cells : List Cell) → p.head < 256 → Shaped p cells → question10 p ≡ true → question5 p cells ≡ true →
    Inside p → Bytes (write p cells)
unfolding write question5 question10
written-bytes p cells head shaped ten five inside =
    at_byte (write p cells) (
      head,
      (
        omega arith,
        (
          omega arith,
          (
            kind-small p.kind,
            (
              omega (arith, shaped.most),
              (
                omega arith,
                (
                  omega (arith, shaped.most, shaped.start),
                  (
                    omega arith,
                    small-nodes p.nodes cells shaped.count (λ s l.
                        let (costs, (cell, _)) = all_true _ (every_true (states p) _ five s l) in
                        small-node (node_at p s) (cell_of cells s) (node-shaped p.nodes shaped.nodes s)
                        (every_true (states p) _ ten s l) costs cell
                        (shaped.chosen s l) (λ form acts i t n m. omega (arith, inside s i t form acts n m, shaped.most))),
                  ),
                ),
              ),
            ),
          ),
        ),
      ),
    )
