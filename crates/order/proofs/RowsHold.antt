-- The definitions give what the worked examples of drafts say (S11.52 to S11.65): one computed test, and a lemma that turns it into the
-- statement for each row.
use Prim.Native.Nat.{ℕ, zero, suc, ◌<◌}
use Prim.Native.String.{String}
use mathlib.Core.Path.{◌≡◌, refl}
use mathlib.Core.Bool.{Bool, true, false}
use mathlib.Core.List.{List, [], ◌∷◌}
use native.Mathlib.Omega.{arith}
use lib.ListN.{length}
use Rattle.model.specs.Questions.{question6_draft}
use Rattle.model.proofs.Computing.{computing}
use Rattle.model.proofs.RowsHold.{same, same-is}
use Rattle.order.specs.Order.{among, some_leads, points_to, leaves, free, lowest, placing, order, up_from, place_of, inverse, lists}
use Rattle.order.specs.Moved.{insert, sorted, moved_node, moved, moved_cells}
use Rattle.order.specs.Asking.{question1_lent, question11, question11_back, rearrange_refusal, restore_refusal}
use Rattle.order.specs.Asking.{rearranged_output, rearranged_list, rearranged_table, restored_output, restored_table}
use Rattle.order.specs.Rows.{Row, Holds, rows, row_at}

-- what computes: the order, the renumbering, the calls, and all of them
unfoldable placing_computes : Unit {0}
unfolding among some_leads points_to leaves free lowest placing order up_from place_of inverse lists
placing_computes = tt

unfoldable moving_computes : Unit {0}
unfolding insert sorted moved_node moved moved_cells question6_draft question1_lent question11 question11_back
moving_computes = tt

unfoldable calls_compute : Unit {0}
unfolding rearrange_refusal restore_refusal rearranged_output rearranged_list rearranged_table restored_output restored_table
calls_compute = tt

unfoldable pub rearranging : Unit {0}
unfolding computing placing_computes moving_computes calls_compute
rearranging = tt

-- what the test of the table finds: that every row holds, or the first that does not, by its name, with what came out and what was expected
data Found : Type 0 where
  every_row_holds : Found
  row_fails : String → List ℕ → List ℕ → Found

-- what follows the test of a row: the others, or that it fails
on_row : Bool → Row → (Unit {0} → Found) → Found
on_row true r others = others tt
on_row false r others = row_fails r.name r.gives r.expected

first_failing : List Row → Found
first_failing [] = every_row_holds
first_failing (r ∷ more) = on_row (same r.gives r.expected) r (λ _. first_failing more)

rows_pass : first_failing rows ≡ every_row_holds
unfolding rearranging rows first_failing on_row same
rows_pass = refl

-- a row that passes holds, and those behind it pass
row-passes : (b : Bool) (r : Row) (others : Unit {0} → Found) → on_row b r others ≡ every_row_holds →
    (b ≡ true) × (others tt ≡ every_row_holds)
unfolding on_row
row-passes true r others h = (refl, h)
row-passes false r others h = let z : ◌≡◌ {A = ℕ} 0 1 = cc in absurd (omega arith)

all_hold : (rs : List Row) → first_failing rs ≡ every_row_holds → (i : ℕ) → i < length rs → Holds (row_at rs i)
unfolding first_failing
all_hold [] h i lt = absurd (omega arith)
all_hold (r ∷ more) h zero lt = same-is _ _ (row-passes _ r _ h).0
all_hold (r ∷ more) h (suc i) lt = all_hold more (row-passes _ r _ h).1 i (omega arith)

-- every row of the table holds
pub drafts-hold : (i : ℕ) → i < length rows → Holds (row_at rows i)
drafts-hold = all_hold rows rows_pass
