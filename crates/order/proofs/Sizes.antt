-- A rearranged sheet has as many bytes as the sheet.
use Prim.Native.Nat.{ℕ, zero, suc, ◌+◌, ◌*◌, ◌<◌, ◌≤◌}
use mathlib.Core.Path.{◌≡◌, refl, sym, ap, ◌∙◌}
use mathlib.Core.Logic.{◌⊎◌, inl, inr, ◌≢◌}
use mathlib.Core.List.{List, [], ◌∷◌, map}
use native.Mathlib.Omega.{arith}
use native.Mathlib.Nat.{add-mul}
use lib.Dec.{eqb}
use lib.ListN.{length, get_or, length-append}
use Rattle.model.specs.Format.{nodes_bytes, write, actions_size, node_size, node_place}
use Rattle.model.specs.Optimal.{sum_below}
use Rattle.model.specs.Problem.{Action, Node, terminal, decision, Problem, Cell, states, node_at}
use Rattle.layout.proofs.Places.{node-length}
use Rattle.theory.proofs.Basics.{same_or_not}
use Rattle.order.proofs.Counting.{one_same, one-other, sum-add, perm-once}
use Rattle.order.proofs.Shaped.{moved_length}
use Rattle.order.specs.Claims.{Perm}
use Rattle.order.specs.Moved.{at, moved_action, moved_node, moved}
use Rattle.order.specs.Times.{one, times}

sum_same : (f g : ℕ → ℕ) (n : ℕ) → ((t : ℕ) → t < n → f t ≡ g t) → sum_below n f ≡ sum_below n g
unfolding sum_below
sum_same f g zero h = refl
sum_same f g (suc n) h = omega (arith, sum_same f g n (λ t l. h t (omega arith)), h n (omega arith))

-- f added up over a list
unfoldable pub total : (ℕ → ℕ) → List ℕ → ℕ
total f [] = 0
total f (x ∷ xs) = f x + total f xs

sum-zero : (f : ℕ → ℕ) (n : ℕ) → sum_below n (λ t. 0 * f t) ≡ 0
unfolding sum_below
sum-zero f zero = refl
sum-zero f (suc n) = omega (arith, sum-zero f n)

sum-none : (f : ℕ → ℕ) (u n : ℕ) → n ≤ u → sum_below n (λ t. one (eqb t u) * f t) ≡ 0
unfolding sum_below
sum-none f u zero l = refl
sum-none f u (suc n) l = rw (one-other n u (omega arith)) (omega (arith, sum-none f u n (omega arith)))

sum-only : (f : ℕ → ℕ) (u n : ℕ) → u < n → sum_below n (λ t. one (eqb t u) * f t) ≡ f u
unfolding sum_below
sum-only f u zero l = absurd (omega arith)
sum-only f u (suc n) l = go (same_or_not n u) (sum-only f u n)
  where
    go : (n ≡ u) ⊎ (n ≢ u) → (u < n → sum_below n (λ t. one (eqb t u) * f t) ≡ f u) → sum_below n (λ t. one (eqb t u) * f t) + one (eqb n u)
        * f n ≡ f u
    go (inl e) ih = let o : one (eqb n u) ≡ 1 = rw e (one_same u) in let fe : f n ≡ f u = ap f e in rw o
        (omega (arith, sum-none f u n (omega arith)))
    go (inr e) ih = rw (one-other n u e) (omega (arith, ih (omega arith)))

total-counted : (f : ℕ → ℕ) (n : ℕ) (xs : List ℕ) → ((s : ℕ) → s < length xs → at xs s < n) → total f xs ≡ sum_below n
    (λ t. times t xs * f t)
unfolding total times
total-counted f n [] below = sym (sum-zero f n)
total-counted f n (u ∷ us) below =
    let parts = sum-add (λ t. one (eqb t u) * f t) (λ t. times t us * f t) n in
    let same = sum_same (λ t. (one (eqb t u) + times t us) * f t) (λ t. one (eqb t u) * f t + times t us * f t) n
    (λ t l. add-mul (one (eqb t u)) (times t us) (f t)) in
    omega (arith, parts, same, sum-only f u n (below 0 (omega arith)), total-counted f n us (λ s l. below (suc s) (omega arith)))

-- over a renumbering it is the sum over all numbers
pub total-perm : (f : ℕ → ℕ) (n : ℕ) (from to : List ℕ) → Perm n from to → total f from ≡ sum_below n f
total-perm f n from to h =
    total-counted f n from (λ s l. h.from_below s (omega (arith, h.from_length))) ∙
    sum_same (λ t. times t from * f t) f n (λ t l. let e : times t from ≡ 1 = perm-once n from to h t l in rw e (omega arith))

-- Sizes of renumbered fields.
actions-size : (to : List ℕ) (acts : List Action) → actions_size (map (moved_action to) acts) ≡ actions_size acts
unfolding actions_size
actions-size to [] = refl
actions-size to (a ∷ more) = omega (arith, moved_length to a, actions-size to more)

pub node-size : (to : List ℕ) (n : Node) → node_size (moved_node to n) ≡ node_size n
unfolding node_size moved_node
node-size to (terminal cost) = refl
node-size to (decision form acts) = omega (arith, actions-size to acts)

pub nodes-length : (ns : List Node) (cells : List Cell) → length (nodes_bytes ns cells) ≡ node_place ns (length ns)
unfolding nodes_bytes node_place
nodes-length [] cells = refl
nodes-length (n ∷ ns) [] = rw (length-append, node-length, nodes-length ns [])
nodes-length (n ∷ ns) (c ∷ cells) = rw (length-append, node-length, nodes-length ns cells)

pub place-total : (g : ℕ → Node) (xs : List ℕ) → node_place (map g xs) (length (map g xs)) ≡ total (λ s. node_size (g s)) xs
unfolding node_place total
place-total g [] = refl
place-total g (x ∷ xs) = omega (arith, place-total g xs)

place-next : (ns : List Node) (s : ℕ) → s < length ns → node_place ns (suc s) ≡ node_place ns s + node_size (get_or ns s (terminal 0))
unfolding node_place
place-next [] s l = absurd (omega arith)
place-next (n ∷ ns) zero l = omega arith
place-next (n ∷ ns) (suc s) l = omega (arith, place-next ns s (omega arith))

pub place-sum : (ns : List Node) (k : ℕ) → k ≤ length ns → node_place ns k ≡ sum_below k (λ s. node_size (get_or ns s (terminal 0)))
unfolding sum_below
place-sum ns zero l = unfold node_place in refl
place-sum ns (suc k) l = place-next ns k l ∙ omega (arith, place-sum ns k (omega arith))

module _ (tag : ℕ) (p : Problem) (from to : List ℕ) (h : Perm (states p) from to) where
  pub moved-size : (cells cells' : List Cell) → length (write (moved tag from to p) cells') ≡ length (write p cells)
  unfolding write moved
  moved-size cells cells' =
      let g : ℕ → Node = λ s. moved_node to (node_at p s) in
      let new = nodes-length (map g from) cells' ∙
      (place-total g from ∙
      (total-perm (λ s. node_size (g s)) (states p) from to h ∙ sum_same _ _ (states p) (λ s l. node-size to (node_at p s)))) in
      let old = nodes-length p.nodes cells ∙ place-sum p.nodes (states p) (omega arith) in
      omega (arith, new, old)
