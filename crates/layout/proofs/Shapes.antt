-- The shape of one state and of one action, and where a successor of an ordered action lies.
use Prim.Native.Nat.{ℕ, zero, suc, ◌+◌, ◌<◌, ◌≤◌}
use mathlib.Core.Path.{◌≡◌, refl, subst}
use mathlib.Core.Bool.{Bool, true, false}
use mathlib.Core.List.{List, [], ◌∷◌}
use native.Mathlib.Omega.{arith}
use borrow.Author.Tests.{leb-true, ltb-true, ltb-false, le-leb, lt-ltb}
use lib.Dec.{ltb}
use lib.ListN.{length, get_or, get_or-eq_default}
use Rattle.model.proofs.TestLaws.{also-true, all_true, true-also, true-all, every_true, true-every}
use Rattle.model.specs.Problem.{Action, action, Form, Node, terminal, decision, Problem, states, node_at, action_at, ◌∈◌, here, there}
use Rattle.model.specs.Questions.{every_state, apart, ascending, successors_in_order, question6, question6_draft}
use Rattle.layout.specs.Shape.{FewSuccessors, ActionsShaped, NodeShaped, NodesShaped, Inside}

pub node-shaped : (ns : List Node) → NodesShaped ns → (s : ℕ) → NodeShaped (get_or ns s (terminal 0))
node-shaped [] h s = tt
node-shaped (n ∷ ns) h zero = h.0
node-shaped (n ∷ ns) h (suc s) = node-shaped ns h.1 s

pub action-shaped : (acts : List Action) (k : ℕ) → k < length acts → ActionsShaped acts →
    FewSuccessors (action_at acts k).successors
action-shaped [] k lt h = absurd (omega arith)
action-shaped (a ∷ more) zero lt h = h.0
action-shaped (a ∷ more) (suc k) lt h = action-shaped more k (omega arith) h.1

-- a successor by its place is one of the successors
pub member : (ts : List ℕ) (j : ℕ) → j < length ts → get_or ts j 0 ∈ ts
member [] j lt = absurd (omega arith)
member (t ∷ ts) zero lt = here
member (t ∷ ts) (suc j) lt = there (member ts j (omega arith))

-- An ascending list, in numbers: one that is empty; the first of one and the others; one put before others.
module _ (d low n : ℕ) where
  pub ascending-none : ascending d low n [] ≡ true
  unfolding ascending
  ascending-none = refl

  module _ (t : ℕ) (ts : List ℕ) where
    pub ascending-first : ascending d low n (t ∷ ts) ≡ true → (low ≤ t) × (t < n) × (ascending d (t + d) n ts ≡ true)
    unfolding ascending
    ascending-first h =
        let (first, more) = also-true _ _ h in
        let (above, below) = all_true _ first in
        (leb-true low t above, ltb-true t n below.0, more)

    pub ascending-put : low ≤ t → t < n → ascending d (t + d) n ts ≡ true → ascending d low n (t ∷ ts) ≡ true
    unfolding ascending
    ascending-put above below more = true-also _ _ (true-all _ (le-leb low t above, (lt-ltb t n below, tt))) more

-- each of an ascending list lies between its bounds
pub ascending-in : (d low n : ℕ) (ts : List ℕ) → ascending d low n ts ≡ true → (t : ℕ) → t ∈ ts → (low ≤ t) × (t < n)
ascending-in d low n [] h t m = absurd (elim m [ ])
ascending-in d low n (u ∷ ts) h t m =
    let (above, below, more) = ascending-first d low n u ts h in go above below t m (ascending-in d (u + d) n ts more)
  where
    go : low ≤ u → u < n → (t : ℕ) → t ∈ (u ∷ ts) → ((t : ℕ) → t ∈ ts → (u + d ≤ t) × (t < n)) →
        (low ≤ t) × (t < n)
    go above below t here ih = (above, below)
    go above below t (there m) ih = (omega (arith, ih t m), (ih t m).1)

-- past the last state there is no decision
pub is_state : (p : Problem) (s : ℕ) {form : Form} (acts : List Action) → node_at p s ≡ decision form acts → s < states p
is_state p s acts e = go (ltb s (states p)) refl
  where
    go : (b : Bool) → ltb s (states p) ≡ b → s < states p
    go true l = ltb-true _ _ l
    go false l =
        let past = ltb-false s (states p) l in
        let z : ◌≡◌ {A = ℕ} 0 1 = cc (get_or-eq_default p.nodes (terminal 0) {n = s} past) in absurd (omega arith)

-- Successors in order are states, whatever they have to be above: question 6, of an ordinary sheet and of a draft.
module _ (p : Problem) (low : ℕ → ℕ) (ordered : every_state p (λ s. successors_in_order (apart p.kind) (low s) (states p)) ≡ true) where
  ordered-inside : Inside p
  unfolding successors_in_order
  ordered-inside s i t form acts e m = go (ltb i (length acts)) refl
    where
      none : t ∈ [] → ⊥
      none m = elim m [ ]

      go : (b : Bool) → ltb i (length acts) ≡ b → t < states p
      go true l =
          let each = rw e at (every_true (states p) _ ordered s (is_state p s acts e)) in
          (ascending-in (apart p.kind) (low s) (states p) _ (every_true (length acts) _ each i (ltb-true _ _ l)) t m).1
      go false l =
          absurd (none (subst (λ (a : Action). t ∈ a.successors) (get_or-eq_default acts (action 0 []) {n = i} (ltb-false _ _ l)) m))

pub six-inside : (p : Problem) → question6 p ≡ true → Inside p
unfolding question6
six-inside p h = ordered-inside p (λ s. s + 1) h

pub draft-inside : (p : Problem) → question6_draft p ≡ true → Inside p
unfolding question6_draft
draft-inside p h = ordered-inside p (λ s. 0) h

-- findings that are in order above something are in order above less: what question 6 accepts it accepts of a draft
looser : (d low less n : ℕ) (ts : List ℕ) → less ≤ low → ascending d low n ts ≡ true → ascending d less n ts ≡ true
looser d low less n [] le h = ascending-none d less n
looser d low less n (t ∷ ts) le h =
    let (above, below, more) = ascending-first d low n t ts h in ascending-put d less n t ts (omega arith) below more

pub six-draft : (p : Problem) → question6 p ≡ true → question6_draft p ≡ true
unfolding question6 question6_draft successors_in_order
six-draft p h = true-every (states p) _ (λ s l. at s (node_at p s) (every_true (states p) _ h s l))
  where
    at : (s : ℕ) (n : Node) → successors_in_order (apart p.kind) (s + 1) (states p) n ≡ true →
        successors_in_order (apart p.kind) 0 (states p) n ≡ true
    at s (terminal cost) h = h
    at s (decision form acts) h =
        true-every (length acts) _
        (λ i l. looser (apart p.kind) (s + 1) 0 (states p) (action_at acts i).successors (omega arith)
        (every_true (length acts) _ h i l))
