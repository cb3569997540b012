-- The definitions give what the worked examples say (S11): one computed test, put to the table a few rows at a time, and a lemma that turns
-- it into the statement for each row.
use Prim.Native.Nat.{ℕ, zero, suc, ◌-◌, ◌*◌, ◌<◌, ◌≤◌}
use Prim.Native.String.{String}
use mathlib.Core.Path.{◌≡◌, refl}
use mathlib.Core.Bool.{Bool, true, false}
use mathlib.Core.List.{List, [], ◌∷◌}
use native.Mathlib.Omega.{arith}
use borrow.Author.Tests.{eqb-true, le-leb}
use lib.Dec.{eqb, lit≤}
use lib.ListN.{length, take, drop, replicate, length-drop}
use Rattle.model.specs.Tests.{also}
use Rattle.model.specs.Limits.{max_states}
use Rattle.model.specs.Questions.{refusal}
use Rattle.model.specs.Report.{largest, report, table_after}
use Rattle.model.specs.Rows.{Expected, answers, accepts, Row, Says, Holds, sheet_a, sheet_j, rows, row_at}
use Rattle.model.proofs.Computing.{computing}
use Rattle.model.proofs.TestLaws.{never, also-true}

-- The test of a row, and of all.
unfoldable pub same : List ℕ → List ℕ → Bool
same [] [] = true
same [] (y ∷ ys) = false
same (x ∷ xs) [] = false
same (x ∷ xs) (y ∷ ys) = also (eqb x y) (λ _. same xs ys)

passes : List ℕ → ℕ → ℕ → Expected → Bool
passes s entries budget (answers xs) = same (report s entries budget) xs
passes s entries budget accepts = eqb (refusal s entries budget) 0

-- what it finds: that every row holds, or the first that does not, by its name, with what came out and what was expected
data Found : Type 0 where
  every_row_holds : Found
  row_fails : String → List ℕ → Expected → Found

-- what follows the test of a row: the others, or that it fails
on_row : Bool → Row → (Unit {0} → Found) → Found
on_row true r others = others tt
on_row false r others = row_fails r.name (report r.sheet r.entries r.budget) r.expected

first_failing : List Row → Found
first_failing [] = every_row_holds
first_failing (r ∷ more) = on_row (passes r.sheet r.entries r.budget r.expected) r (λ _. first_failing more)

-- six rows by themselves, and then six more: so few that the checker has the steps to compute and print the row that fails
InParts : ℕ → List Row → Type 0
InParts zero rs = Unit {0}
InParts (suc n) rs = (first_failing (take 6 rs) ≡ every_row_holds) × InParts n (drop 6 rs)

parts-pass : InParts 15 rows
unfolding computing rows InParts first_failing on_row passes same
parts-pass = (refl, (refl, (refl, (refl, (refl, (refl, (refl, (refl, (refl, (refl, (refl, (refl, (refl, (refl, (refl, tt)))))))))))))))

-- a row that passes, and others behind it that do, and the other way
row-passes : (b : Bool) (r : Row) (others : Unit {0} → Found) → on_row b r others ≡ every_row_holds →
    (b ≡ true) × (others tt ≡ every_row_holds)
unfolding on_row
row-passes true r others h = (refl, h)
row-passes false r others h = let z : ◌≡◌ {A = ℕ} 0 1 = cc in absurd (omega arith)

row-then : (b : Bool) (r : Row) (others : Unit {0} → Found) → b ≡ true → others tt ≡ every_row_holds → on_row b r others ≡ every_row_holds
unfolding on_row
row-then b r others e h = rw e h

-- parts that pass are a table that passes
joined-pass : (k : ℕ) (rs : List Row) → first_failing (take k rs) ≡ every_row_holds → first_failing (drop k rs) ≡ every_row_holds →
    first_failing rs ≡ every_row_holds
unfolding first_failing
joined-pass zero rs h g = g
joined-pass (suc k) [] h g = refl
joined-pass (suc k) (r ∷ more) h g = let (passed, others) = row-passes _ r _ h in row-then _ r _ passed (joined-pass k more others g)

all_pass : (n : ℕ) (rs : List Row) → length rs ≤ 6 * n → InParts n rs → first_failing rs ≡ every_row_holds
unfolding InParts first_failing
all_pass zero [] few h = refl
all_pass zero (r ∷ more) few h = absurd (omega arith)
all_pass (suc n) rs few h = joined-pass 6 rs h.0 (all_pass n (drop 6 rs) (omega (arith, length-drop 6 rs)) h.1)

rows_pass : first_failing rows ≡ every_row_holds
unfolding rows
rows_pass = all_pass 15 rows (lit≤ tt) parts-pass

-- The test that passes is the row that holds.
pub same-is : (xs ys : List ℕ) → same xs ys ≡ true → xs ≡ ys
unfolding same
same-is [] [] h = refl
same-is [] (y ∷ ys) h = never h
same-is (x ∷ xs) [] h = never h
same-is (x ∷ xs) (y ∷ ys) h =
    let g = also-true _ _ h in
    let e : x ≡ y = eqb-true _ _ g.0 in
    let r : xs ≡ ys = same-is xs ys g.1 in
    cc

passes-says : (s : List ℕ) (entries budget : ℕ) (e : Expected) → passes s entries budget e ≡ true → Says s entries budget e
unfolding passes Says
passes-says s entries budget (answers xs) h = same-is _ _ h
passes-says s entries budget accepts h = eqb-true _ _ h

all_hold : (rs : List Row) → first_failing rs ≡ every_row_holds → (i : ℕ) → i < length rs → Holds (row_at rs i)
unfolding first_failing
all_hold [] h i lt = absurd (omega arith)
all_hold (r ∷ more) h zero lt = passes-says r.sheet r.entries r.budget r.expected (row-passes _ r _ h).0
all_hold (r ∷ more) h (suc i) lt = all_hold more (row-passes _ r _ h).1 i (omega arith)

-- every row of the table holds
pub rows-hold : (i : ℕ) → i < length rows → Holds (row_at rows i)
rows-hold = all_hold rows rows_pass

-- S11.16: sheet A has 81 bytes and offsets 8, 37, 57, 69; whatever a long enough table held, its other entries become 0.
pub length-A : length sheet_a ≡ 81
length-A = refl

pub offsets-A : (t : List ℕ) → max_states ≤ length t →
    table_after sheet_a t largest ≡ 8 ∷ 37 ∷ 57 ∷ 69 ∷ replicate (length t - 4) 0
unfolding computing
offsets-A t h = rw (le-leb max_states (length t) h)

-- S11: sheet J has 82 bytes and offsets 8, 38, 58, 70
pub length-J : length (sheet_j 2) ≡ 82
length-J = refl

pub offsets-J : (t : List ℕ) → max_states ≤ length t →
    table_after (sheet_j 2) t largest ≡ 8 ∷ 38 ∷ 58 ∷ 70 ∷ replicate (length t - 4) 0
unfolding computing
offsets-J t h = rw (le-leb max_states (length t) h)
