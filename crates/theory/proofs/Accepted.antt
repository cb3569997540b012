-- Yes to questions 3 to 8 is what the theory supposes, and what work keeps, with that to question 10.
use Prim.Native.Nat.{ℕ, ◌+◌, ◌<◌, ◌≤◌}
use mathlib.Core.Path.{◌≡◌, refl, ap, subst}
use mathlib.Core.Bool.{Bool, true, false}
use mathlib.Core.Logic.{◌⊎◌, inl, inr}
use mathlib.Core.Option.{some}
use mathlib.Core.List.{List, [], ◌∷◌}
use native.Mathlib.Omega.{arith}
use borrow.Author.Tests.{ltb-true, leb-true, eqb-true, lt-ltb, le-leb, eq-eqb}
use lib.Dec.{leb}
use lib.ListN.{length, get_or-eq_default}
use Rattle.model.proofs.TestLaws.{also-true, true-also, all_true, true-all, every_true, true-every}
use Rattle.model.specs.Tests.{fork}
use Rattle.model.specs.Problem.{Action, action, Form, Node, terminal, decision, Problem, Cell, cell, states, node_at, action_at}
use Rattle.model.specs.Problem.{cell_of, solved, ◌∈◌, here, there}
use Rattle.model.specs.Limits.{ceiling, no_plan, max_cost}
use Rattle.model.specs.Questions.{costs_in_range, chosen_in_range, cell_in_range, question5, apart}
use Rattle.model.specs.Questions.{ascending, successors_in_order, question6}
use Rattle.model.specs.Questions.{value_under, question7, all_solved, passed_by, mark_earned, question8}
use Rattle.layout.proofs.Shapes.{node-shaped, action-shaped, ascending-first, ascending-in, is_state}
use Rattle.layout.specs.Shape.{NodeShaped, ChosenShaped}
use Rattle.theory.specs.Consistent.{Ascends, end_of, WellFormed, Settles, Sound, Consistent}
use Rattle.theory.specs.Asked.{Asked}
use Rattle.theory.proofs.Basics.{clash, lt-or-le}
use Rattle.theory.proofs.CostLaws.{not_some}

all-solved : (cells : List Cell) (ts : List ℕ) → all_solved cells ts ≡ true → (t : ℕ) → t ∈ ts →
    solved (cell_of cells t) ≡ true
unfolding all_solved
all-solved cells [] h t m = absurd (elim m [ ])
all-solved cells (u ∷ ts) h t m = go t m (all-solved cells ts (also-true _ _ h).1)
  where
    go : (t : ℕ) → t ∈ (u ∷ ts) → ((t : ℕ) → t ∈ ts → solved (cell_of cells t) ≡ true) →
        solved (cell_of cells t) ≡ true
    go t here ih = (also-true _ _ h).0
    go t (there m) ih = ih t m

solved-all : (cells : List Cell) (ts : List ℕ) → ((t : ℕ) → t ∈ ts → solved (cell_of cells t) ≡ true) →
    all_solved cells ts ≡ true
unfolding all_solved
solved-all cells [] h = refl
solved-all cells (t ∷ ts) h = true-also _ _ (h t here) (solved-all cells ts (λ u m. h u (there m)))

ascends : (d low n : ℕ) (ts : List ℕ) → ascending d low n ts ≡ true → Ascends ts
ascends d low n [] h = tt
ascends d low n (t ∷ ts) h =
    let (_, _, more) = ascending-first d low n t ts h in
    (λ u m. omega (arith, ascending-in d (t + d) n ts more u m), ascends d (t + d) n ts more)

module _ (p : Problem) (cells : List Cell) (h : Asked p cells) where
  five : (s : ℕ) → s < states p → (costs_in_range (node_at p s) ≡ true) × (cell_in_range (node_at p s) (cell_of cells s) ≡ true)
  unfolding question5
  five s l = let e = all_true _ (every_true (states p) _ h.five s l) in (e.0, e.1.0)

  six : (s : ℕ) → s < states p → successors_in_order (apart p.kind) (s + 1) (states p) (node_at p s) ≡ true
  unfolding question6
  six s l = every_true (states p) _ h.six s l

  pub asked-problem : WellFormed p
  unfolding costs_in_range successors_in_order ceiling
  asked-problem = record {
    starts = h.shaped.start;
    capped = λ s cost e. cap s cost e (lt-or-le s (states p));
    forward = λ s i t acts e m. ahead s i t acts e m (lt-or-le i (length acts));
    ordered = λ s i acts e l.
        ((action-shaped acts i l (shape s acts e).1).0, ascends (apart p.kind) (s + 1) (states p) _ (in_order s i acts e l));
  }
    where
      shape : (s : ℕ) {form : Form} (acts : List Action) → node_at p s ≡ decision form acts → NodeShaped (decision form acts)
      shape s acts e = subst NodeShaped e (node-shaped p.nodes h.shaped.nodes s)

      in_order : (s i : ℕ) {form : Form} (acts : List Action) → node_at p s ≡ decision form acts → i < length acts →
          ascending (apart p.kind) (s + 1) (states p) (action_at acts i).successors ≡ true
      in_order s i acts e l = every_true (length acts) _ (rw e at (six s (is_state p s acts e))) i l

      cap : (s cost : ℕ) → node_at p s ≡ terminal cost → (s < states p) ⊎ (states p ≤ s) → cost ≤ ceiling
      cap s cost e (inl l) = omega (arith, leb-true cost max_cost (rw e at (five s l).0))
      cap s cost e (inr le) = let z : cost ≡ 0 = cc (get_or-eq_default p.nodes (terminal 0) {n = s} le) in omega arith

      ahead : (s i t : ℕ) {form : Form} (acts : List Action) → node_at p s ≡ decision form acts → t ∈ (action_at acts i).successors →
          (i < length acts) ⊎ (length acts ≤ i) → (s < t) × (t < states p)
      ahead s i t acts e m (inl l) =
          let (low, high) = ascending-in (apart p.kind) (s + 1) (states p) _ (in_order s i acts e l) t m in (omega arith, high)
      ahead s i t acts e m (inr le) =
          absurd (none (subst (λ (a : Action). t ∈ a.successors) (get_or-eq_default acts (action 0 []) {n = i} le) m))
        where
          none : t ∈ [] → ⊥
          none m = elim m [ ]

  pub asked-cells : Consistent p cells
  unfolding question7 question8 cell_in_range chosen_in_range value_under mark_earned passed_by ceiling
  asked-cells = record { size = h.shaped.count; sound = λ s. go s (lt-or-le s (states p)) }
    where
      go : (s : ℕ) → (s < states p) ⊎ (states p ≤ s) → Sound p cells s
      go s (inl l) = record {
        small = leb-true _ _ range.0;
        mark = leb-true _ _ range.1.0;
        unchosen = λ o. open-chosen (node_at p s) refl o;
        endless = λ x e. (ends (node_at p s) refl x e).0;
        under_end = λ x e. (ends (node_at p s) refl x e).1;
        under_q = λ acts i e l. leb-true _ _ (every_true (length acts) _ (rw e at seven) i l);
        at_end = λ x e sol. (ends (node_at p s) refl x e).2 sol;
        settles = settled;
      }
        where
          range : (leb (cell_of cells s).value no_plan ≡ true) × ((leb (cell_of cells s).mark 1 ≡ true) ×
              ((chosen_in_range (node_at p s) (cell_of cells s) ≡ true) × Unit {0}))
          range = all_true _ (five s l).1

          seven : value_under p cells s (node_at p s) ≡ true
          seven = every_true (states p) _ h.seven s l

          eight : fork (solved (cell_of cells s)) (λ _. mark_earned p cells s (node_at p s)) (λ _. true) ≡ true
          eight = every_true (states p) _ h.eight s l

          shape : (n : Node) → node_at p s ≡ n → ChosenShaped n (cell_of cells s)
          shape n e = subst (λ (m : Node). ChosenShaped m (cell_of cells s)) e (h.shaped.chosen s l)

          chosen : (n : Node) → node_at p s ≡ n → chosen_in_range n (cell_of cells s) ≡ true
          chosen n e = rw e at range.1.1.0

          open-chosen : (n : Node) → node_at p s ≡ n → solved (cell_of cells s) ≡ false → (cell_of cells s).chosen ≡ 0
          open-chosen (terminal cost) e o = shape (terminal cost) e
          open-chosen (decision form []) e o = eqb-true _ _ (chosen (decision form []) e)
          open-chosen (decision form (a ∷ more)) e o = eqb-true _ _ (rw o at (chosen (decision form (a ∷ more)) e))

          ends : (n : Node) → node_at p s ≡ n → (x : ℕ) → end_of n ≡ some x →
              ((cell_of cells s).chosen ≡ 0) × ((cell_of cells s).value ≤ x) ×
              (solved (cell_of cells s) ≡ true → (cell_of cells s).value ≡ x)
          ends (terminal cost) e x f =
              let same : cost ≡ x = cc in
              rw (← same) (shape (terminal cost) e, leb-true _ _ (rw e at seven), λ sol. eqb-true _ _ (rw (sol, e) at eight))
          ends (decision form []) e x f =
              let same : no_plan ≡ x = cc in
              let none-chosen = eqb-true _ _ (chosen (decision form []) e) in
              rw (← same) (none-chosen, leb-true _ _ range.0, λ sol. eqb-true _ _ (rw (sol, e) at eight))
          ends (decision form (a ∷ more)) e x f = not_some refl f

          settled : {form : Form} (acts : List Action) → node_at p s ≡ decision form acts → 0 < length acts →
              solved (cell_of cells s) ≡ true → Settles p cells s (cell_of cells s).chosen acts
          settled [] e has sol = absurd (omega arith)
          settled {form} (a ∷ more) e has sol = let b = all_true _ (rw (sol, e) at eight) in
              record {
                exists = ltb-true _ _ (rw sol at (chosen (decision form (a ∷ more)) e));
                priced = eqb-true _ _ b.0;
                below = all-solved cells _ b.1.0;
              }
      go s (inr le) = record {
        small = rw blank (omega arith);
        mark = rw blank (omega arith);
        unchosen = rw blank (λ _. refl);
        endless = rw blank (λ x e. refl);
        under_end = rw blank (λ x e. omega arith);
        under_q = λ acts i e l. rw blank (omega arith);
        at_end = rw blank (λ x e sol. clash sol refl);
        settles = λ acts e has sol. clash sol (ap (λ (c : Cell). solved c) blank);
      }
        where
          blank : cell_of cells s ≡ cell 0 0 0
          blank = get_or-eq_default cells (cell 0 0 0) {n = s} (rw h.shaped.count le)

-- consistent cells of the same problem get a yes again
pub still-asked : (p : Problem) (first cells : List Cell) → Asked p first → Consistent p cells → Asked p cells
unfolding question5 question7 question8 cell_in_range chosen_in_range value_under mark_earned passed_by
still-asked p first cells h g = record {
  ordinary = h.ordinary;
  shaped = record {
    some = h.shaped.some;
    most = h.shaped.most;
    start = h.shaped.start;
    nodes = h.shaped.nodes;
    count = g.size;
    chosen = λ s l. chosen s (node_at p s) refl;
  };
  ten = h.ten;
  five = true-every (states p) _ (λ s l. true-all _ ((five p first h s l).0, (in-range s, tt)));
  six = h.six;
  seven = true-every (states p) _ (λ s l. under s (node_at p s) refl);
  eight = true-every (states p) _ (λ s l. earned s (node_at p s) refl (solved (cell_of cells s)) refl);
}
  where
    chosen : (s : ℕ) (n : Node) → node_at p s ≡ n → ChosenShaped n (cell_of cells s)
    chosen s (terminal cost) e = (g.sound s).endless cost (rw e)
    chosen s (decision form acts) e = tt

    range : (s : ℕ) (n : Node) → node_at p s ≡ n → (b : Bool) → solved (cell_of cells s) ≡ b →
        chosen_in_range n (cell_of cells s) ≡ true
    range s (terminal cost) e b eb = refl
    range s (decision form []) e b eb = eq-eqb _ _ ((g.sound s).endless no_plan (rw e))
    range s (decision form (a ∷ more)) e true eb = rw eb (lt-ltb _ _ ((g.sound s).settles (a ∷ more) e (omega arith) eb).exists)
    range s (decision form (a ∷ more)) e false eb = rw eb (eq-eqb _ _ ((g.sound s).unchosen eb))

    in-range : (s : ℕ) → cell_in_range (node_at p s) (cell_of cells s) ≡ true
    in-range s =
        let h = g.sound s in
        true-all _ (le-leb _ _ h.small, (le-leb _ _ h.mark, (range s (node_at p s) refl (solved (cell_of cells s)) refl, tt)))

    under : (s : ℕ) (n : Node) → node_at p s ≡ n → value_under p cells s n ≡ true
    under s (terminal cost) e = le-leb _ _ ((g.sound s).under_end cost (rw e))
    under s (decision form acts) e = true-every (length acts) _ (λ i l. le-leb _ _ ((g.sound s).under_q acts i e l))

    earned : (s : ℕ) (n : Node) → node_at p s ≡ n → (b : Bool) → solved (cell_of cells s) ≡ b →
        fork b (λ _. mark_earned p cells s n) (λ _. true) ≡ true
    earned s n e false eb = refl
    earned s (terminal cost) e true eb = eq-eqb _ _ ((g.sound s).at_end cost (rw e) eb)
    earned s (decision form []) e true eb = eq-eqb _ _ ((g.sound s).at_end no_plan (rw e) eb)
    earned s (decision form (a ∷ more)) e true eb =
        let r = (g.sound s).settles (a ∷ more) e (omega arith) eb in
        true-all _ (eq-eqb _ _ r.priced, (solved-all cells _ r.below, tt))
