-- Questions 5 and 8 of one state, by the tests that the code makes.
use Prim.Native.Nat.{ℕ, ◌<◌, ◌≤◌}
use mathlib.Core.Path.{◌≡◌, refl, sym, ap, ◌∙◌}
use mathlib.Core.Bool.{Bool, true, false}
use mathlib.Core.List.{List, [], ◌∷◌}
use native.Mathlib.Omega.{arith}
use borrow.Author.Tests.{le-leb, lt-leb, lt-ltb, le-ltb, eq-eqb, ne_eqb, eqb-true}
use lib.Dec.{leb, ltb, eqb}
use lib.ListN.{length}
use Rattle.model.proofs.TestLaws.{all_one}
use Rattle.model.specs.Tests.{fork, all}
use Rattle.model.specs.Problem.{Action, Form, Node, terminal, decision, Problem, Cell, node_at, action_at, cell_of, value_of, solved}
use Rattle.model.specs.Format.{terminal_tag, tag_of, actions_of, form_of}
use Rattle.model.specs.Limits.{ceiling, max_cost}
use Rattle.model.specs.QValue.{q}
use Rattle.model.specs.Questions.{costs_in_range, chosen_in_range, cell_in_range, all_solved, passed_by, mark_earned}
use Rattle.sheet.specs.Sheet.{terminal_cost}
use Rattle.sheet.proofs.Laws.{actions_at, is-terminal}
use Rattle.questions.specs.Put.{ranges_at, count_in_range}
use Rattle.std.proofs.Common.{Some, None}
use Rattle.questions.proofs.Stepping.{earned-is, earned-none}

both_false : (b c : Bool) → c ≡ false → false ≡ all (b ∷ c ∷ [])
unfolding all
both_false true c h = rw h
both_false false c h = refl

-- is action k in range at a decision of m actions? 0 always is, and another where it is solved
abbrev pub chosen_fits : Bool → ℕ → ℕ → Bool
chosen_fits marked k m = fork (eqb k 0) (λ _. true) (λ _. fork marked (λ _. ltb k m) (λ _. false))

chosen-fits : (form : Form) (acts : List Action) (c : Cell) →
    chosen_in_range (decision form acts) c ≡ chosen_fits (solved c) c.chosen (length acts)
unfolding chosen_in_range
chosen-fits form [] c = go (solved c) (eqb c.chosen 0) refl
  where
    go : (b z : Bool) → eqb c.chosen 0 ≡ z → z ≡ fork z (λ _. true) (λ _. fork b (λ _. ltb c.chosen 0) (λ _. false))
    go b true e = refl
    go true false e = sym (le-ltb c.chosen 0 (omega arith))
    go false false e = refl
chosen-fits form (a ∷ more) c = go (solved c) (eqb c.chosen 0) refl
  where
    m : ℕ
    m = length (a ∷ more)

    go : (b z : Bool) → eqb c.chosen 0 ≡ z →
        fork b (λ _. ltb c.chosen m) (λ _. z) ≡ fork z (λ _. true) (λ _. fork b (λ _. ltb c.chosen m) (λ _. false))
    go true true e = lt-ltb c.chosen m (omega (arith, eqb-true c.chosen 0 e))
    go false true e = refl
    go true false e = refl
    go false false e = refl

module _ (n : Node) (c : Cell) where
  pub value_out : 1000000001 < c.value → false ≡ ranges_at n c
  unfolding ranges_at cell_in_range ceiling all
  value_out h = both_false (costs_in_range n) (cell_in_range n c) (rw (lt-leb c.value 1000000001 h))

  module _ (low : c.value ≤ 1000000001) where
    pub mark-out : 1 < c.mark → false ≡ ranges_at n c
    unfolding ranges_at cell_in_range ceiling all
    mark-out h = both_false (costs_in_range n) (cell_in_range n c) (rw (le-leb c.value 1000000001 low, lt-leb c.mark 1 h))

    module _ (bit : c.mark ≤ 1) where
      cell-is : cell_in_range n c ≡ chosen_in_range n c
      unfolding cell_in_range ceiling all
      cell-is = rw (le-leb c.value 1000000001 low, le-leb c.mark 1 bit) (all_one (chosen_in_range n c))

      pub terminal-range : (cost : ℕ) → n ≡ terminal cost → leb cost max_cost ≡ ranges_at n c
      unfolding ranges_at costs_in_range chosen_in_range all
      terminal-range cost e = rw (cell-is, e) (last (leb cost max_cost))
        where
          last : (b : Bool) → b ≡ all (b ∷ true ∷ [])
          last true = sym (all_one true)
          last false = sym (all_one false)

      pub count-out : None ≡ count_in_range n → false ≡ ranges_at n c
      unfolding ranges_at count_in_range all
      count-out none = go (costs_in_range n) refl
        where
          go : (b : Bool) → costs_in_range n ≡ b → false ≡ ranges_at n c
          go true e = let z = rw e at none in cc
          go false e = rw e

      -- a decision of m actions whose costs are in range; k is chosen
      module _ (m : ℕ) (counted : Some m ≡ count_in_range n) (node : n ≡ decision (form_of n) (actions_of n)) (k : ℕ)
          (is : k ≡ c.chosen) where
        ranges-are : ranges_at n c ≡ chosen_fits (solved c) k m
        unfolding ranges_at count_in_range all
        ranges-are = go (costs_in_range n) refl
          where
            go : (b : Bool) → costs_in_range n ≡ b → ranges_at n c ≡ chosen_fits (solved c) k m
            go true e =
                let count : m ≡ length (actions_of n) = (let z = rw e at counted in cc) in
                rw (e, cell-is, count, is) (all_one (chosen_in_range n c) ∙
                (ap (λ (x : Node). chosen_in_range x c) node ∙ chosen-fits (form_of n) (actions_of n) c))
            go false e = let z = rw e at counted in cc

        pub zero-range : k ≡ 0 → eqb k 0 ≡ ranges_at n c
        zero-range z = rw (eq-eqb k 0 z) (sym (ranges-are ∙ rw z))

        module _ (nz : k ≡ 0 → ⊥) (mark : ℕ) (marked : mark ≡ c.mark) where
          pub solved-range : mark ≡ 1 → ltb k m ≡ ranges_at n c
          solved-range e = sym (ranges-are ∙ rw (ne_eqb k 0 nz, ← marked, eq-eqb mark 1 e))

          pub open-range : (mark ≡ 1 → ⊥) → eqb mark 1 ≡ ranges_at n c
          open-range e = rw (ne_eqb mark 1 e) (sym (ranges-are ∙ rw (ne_eqb k 0 nz, ← marked, ne_eqb mark 1 e)))

-- question 8 of a solved terminal
pub earned-terminal : (p : Problem) (cells : List Cell) (s : ℕ) → tag_of (node_at p s) ≡ terminal_tag →
    eqb (value_of cells s) (terminal_cost (node_at p s)) ≡ mark_earned p cells s (node_at p s)
unfolding mark_earned terminal_cost
earned-terminal p cells s tag = rw (is-terminal (node_at p s) tag)

-- question 8 of a solved decision: one without actions, and one with, whose chosen action is a
module _ (p : Problem) (cells : List Cell) (s : ℕ) (tag : tag_of (node_at p s) ≡ terminal_tag → ⊥) where
  pub earned-barren : length (actions_at p s) ≤ 0 → eqb (value_of cells s) 1000000001 ≡ mark_earned p cells s (node_at p s)
  unfolding ceiling
  earned-barren none = sym (earned-none p s tag cells none)

  module _ (some : 0 < length (actions_at p s)) {a : Action} (is : a ≡ action_at (actions_at p s) (cell_of cells s).chosen)
      {value price : ℕ} (v : value ≡ value_of cells s) (x : price ≡ q p.kind (value_of cells) a) where
    passed : mark_earned p cells s (node_at p s) ≡ all (eqb value price ∷ all_solved cells a.successors ∷ [])
    unfolding passed_by
    passed = earned-is p s tag cells some ∙ rw (v, x, is)

    pub earned-decision : value ≡ price → {b : Bool} → b ≡ all_solved cells a.successors → b ≡ mark_earned p cells s (node_at p s)
    unfolding all
    earned-decision e be = be ∙ sym (passed ∙ rw (eq-eqb value price e) (all_one _))

    pub unearned : (value ≡ price → ⊥) → false ≡ mark_earned p cells s (node_at p s)
    unfolding all
    unearned e = sym (passed ∙ rw (ne_eqb value price e))
