-- Small facts of the procedure that a reader would ask for.
use Prim.Native.Nat.{ℕ, suc, ◌<◌, ◌≤◌}
use mathlib.Core.Path.{◌≡◌, refl, ap}
use mathlib.Core.Bool.{true, false}
use mathlib.Core.Option.{some}
use mathlib.Core.List.{List, [], ◌∷◌}
use native.Mathlib.Omega.{arith}
use borrow.Author.Tests.{lt-ltb, le-ltb}
use lib.Seq.{set-get_or}
use Rattle.model.specs.Problem.{Action, Form, Node, terminal, decision, Problem, cell, node_at, ◌∈◌, here, there}
use Rattle.model.specs.Limits.{no_plan}
use Rattle.model.specs.Ldfs.{Search, Visit, success, halt, value_at, solved_at, price_at, on_test, on_visit, stored, marked}
use Rattle.model.specs.Ldfs.{update, if_dear, visit_all, finish, visit_open, visit}
use Rattle.model.specs.Ldfs.{if_dear_by, visit_all_by, try_one_by, try_all_by, visit_open_by, visit_by}
use Rattle.theory.specs.Consistent.{end_of}
use Rattle.theory.proofs.CostLaws.{not_some}
use Rattle.theory.proofs.QValueLaws.{q-small}

-- to store the value that a state has changes nothing
pub store_same : (s x : ℕ) (w : Search) → x ≡ value_at w s → stored s x w ≡ w
store_same s x w e = rw (e, set-get_or w.cells s (cell 0 0 0))

-- where the value is none no price is above it, so no action is skipped
pub none-not-dear : (p : Problem) (s : ℕ) (a : Action) (f g : Search → Visit) (w : Search) → value_at w s ≡ no_plan →
    if_dear p s a f g w ≡ g w
unfolding if_dear_by on_test
none-not-dear p s a f g w e = rw (le-ltb (value_at w s) (price_at p w a) (omega (arith, q-small p.kind (value_at w) a)))

-- a state that ends by itself is finished at that value: a terminal at its cost, a decision with no action at none
pub open-end : (p : Problem) (budget : ℕ) (v : ℕ → Search → Visit) (s x : ℕ) (w : Search) (node : Node) →
    end_of node ≡ some x →
    visit_open p budget v s node w ≡ finish budget s x w
unfolding visit_open_by
open-end p budget v s x w (terminal cost) e = let same : cost ≡ x = cc in rw same
open-end p budget v s x w (decision form []) e = let same : no_plan ≡ x = cc in rw same
open-end p budget v s x w (decision form (a ∷ more)) e = not_some refl e

module _ (p : Problem) (budget n s : ℕ) (w : Search) (is_open : solved_at w s ≡ false) where
  -- whatever is left of the budget, a state that ends by itself and has that value is marked
  pub end_marked : (x : ℕ) → end_of (node_at p s) ≡ some x → x ≡ value_at w s →
      visit p budget (suc n) s w ≡ success (marked s 0 w)
  unfolding visit_by finish update on_test
  end_marked x ends e =
      rw (is_open, open-end p budget (visit p budget n) s x w (node_at p s) ends, le-ltb (value_at w s) x (omega arith))
      (ap (λ (u : Search). success (marked s 0 u)) (store_same s x w e))

  all_pass : (a : Action) → price_at p w a ≤ value_at w s → (ts : List ℕ) → ((t : ℕ) → t ∈ ts → solved_at w t ≡ true) →
      visit_all p budget (visit p budget (suc n)) s a ts w ≡ success w
  unfolding visit_all_by visit_by if_dear_by on_test on_visit
  all_pass a le [] h = refl
  all_pass a le (t ∷ ts) h = rw (h t here, le-ltb (value_at w s) (price_at p w a) le) (all_pass a le ts (λ u m. h u (there m)))

  -- and so is a decision whose first action has its price for a value and its successors solved
  pub decision-marked : {form : Form} (a : Action) (more : List Action) → node_at p s ≡ decision form (a ∷ more) →
      price_at p w a ≤ value_at w s → ((t : ℕ) → t ∈ a.successors → solved_at w t ≡ true) →
      visit p budget (suc (suc n)) s w ≡ success (marked s 0 w)
  unfolding visit_by visit_open_by try_all_by try_one_by if_dear_by on_test on_visit
  decision-marked a more node le below = rw (is_open, node, le-ltb (value_at w s) (price_at p w a) le, all_pass a le a.successors below)

  -- once the budget is spent, one that needs a raise stays as it is
  pub end-waits : (x : ℕ) → end_of (node_at p s) ≡ some x → value_at w s < x → budget ≤ w.raises →
      visit p budget (suc n) s w ≡ halt w
  unfolding visit_by finish update on_test
  end-waits x ends up spent =
      rw (is_open, open-end p budget (visit p budget n) s x w (node_at p s) ends, lt-ltb (value_at w s) x up, le-ltb w.raises budget spent)
