-- The worked examples of drafts (S11.52 to S11.65), in one table. `proofs/RowsHold.antt` has one proof across it.
use Rattle.std.specs.Prelude.{ℕ, ◌≡◌, List, [], ◌∷◌, ◌++◌, length, get_or, take, drop, replicate}
use Prim.Native.String.{String}
use Rattle.model.specs.Problem.{Kind, worst, whole, action, plain, counted, Node, terminal, decision, Problem, problem, Cell, cell}
use Rattle.model.specs.Format.{draft_tag, write}
use Rattle.model.specs.Read.{problem_of}
use Rattle.model.specs.Questions.{refusal}
use Rattle.model.specs.Report.{largest, report}
use Rattle.model.specs.Rows.{sheet_a}
use Rattle.order.specs.Order.{order}
use Rattle.order.specs.Asking.{rearrange_refusal, restore_refusal, rearranged_bytes, restored_bytes, rearranged_output, rearranged_list}
use Rattle.order.specs.Asking.{rearranged_table, restored_output, restored_table}

-- a row's name, what the definitions give, and what is expected
pub record Row : Type 0 where
  pub name : String
  pub gives : List ℕ
  pub expected : List ℕ

abbrev row : String → List ℕ → List ℕ → Row
row n g e = record { name = n; gives = g; expected = e }

-- row i of a table, and what it is for it to hold
abbrev pub row_at : List Row → ℕ → Row
row_at rs i = get_or rs i (row "" [] [])

abbrev pub Holds : Row → Type 0
Holds r = r.gives ≡ r.expected

-- Sheet K, byte by byte.
abbrev pub sheet_k : List ℕ
sheet_k =
    6 ∷ 0 ∷ 5 ∷ 0 ∷ 0 ∷ 4 ∷ 0 ∷ 2
    ∷ 2 ∷ 0 ∷ 9 ∷ 0 ∷ 0 ∷ 0 ∷ 100 ∷ 0 ∷ 0 ∷ 0 ∷ 0 ∷ 0
    ∷ 2 ∷ 0 ∷ 9 ∷ 0 ∷ 0 ∷ 0 ∷ 0 ∷ 0 ∷ 0 ∷ 0 ∷ 0 ∷ 0
    ∷ 3 ∷ 0 ∷ 6 ∷ 0 ∷ 0 ∷ 0 ∷ 0 ∷ 0 ∷ 0
    ∷ 4 ∷ 0 ∷ 8 ∷ 0 ∷ 0 ∷ 0 ∷ 200 ∷ 0 ∷ 1 ∷ 0 ∷ 3
    ∷ 4 ∷ 0 ∷ 6 ∷ 0 ∷ 0 ∷ 1 ∷ 244 ∷ 0 ∷ 1
    ∷ 3 ∷ 0 ∷ 6 ∷ 0 ∷ 0 ∷ 0 ∷ 0 ∷ 0 ∷ 0
    ∷ 4 ∷ 0 ∷ 8 ∷ 0 ∷ 0 ∷ 1 ∷ 144 ∷ 0 ∷ 0 ∷ 0 ∷ 1
    ∷ []

-- sheet A with its stage 1 settled at 500 by check 0, and its endings settled at their costs
abbrev settled_a : List ℕ
settled_a =
    take 37 sheet_a
    ++ (3 ∷ 0 ∷ 6 ∷ 0 ∷ 0 ∷ 1 ∷ 244 ∷ 1 ∷ 0
    ∷ 4 ∷ 0 ∷ 8 ∷ 0 ∷ 0 ∷ 1 ∷ 144 ∷ 0 ∷ 2 ∷ 0 ∷ 3
    ∷ 2 ∷ 0 ∷ 9 ∷ 0 ∷ 0 ∷ 0 ∷ 100 ∷ 0 ∷ 0 ∷ 0 ∷ 100 ∷ 1
    ∷ 2 ∷ 0 ∷ 9 ∷ 0 ∷ 0 ∷ 0 ∷ 0 ∷ 0 ∷ 0 ∷ 0 ∷ 0 ∷ 1
    ∷ [])

-- the problem of a draft, a junction with one check, and cells of which all are open at value 0
abbrev draft : Kind → ℕ → List Node → Problem
draft k s ns = record { head = draft_tag; kind = k; start = s; nodes = ns }

abbrev one : ℕ → List ℕ → Node
one cost ts = decision plain (action cost ts ∷ [])

abbrev blank : ℕ → List Cell
blank n = replicate n (cell 0 0 0)

-- Sheet K with other cells at stages 0, 1 and 3.
abbrev with_cells : Cell → Cell → Cell → List ℕ
with_cells c₀ c₁ c₃ =
    write
    (draft worst 2
    (terminal 100 ∷ terminal 0 ∷ decision plain (action 200 (1 ∷ 3 ∷ []) ∷ action 500 (1 ∷ []) ∷ []) ∷ one 400 (0 ∷ 1 ∷ []) ∷ []))
    (c₀ ∷ c₁ ∷ cell 0 0 0 ∷ c₃ ∷ [])

abbrev sheet_l : List ℕ
sheet_l = write (draft worst 2 (one 1 (1 ∷ []) ∷ terminal 0 ∷ one 1 (0 ∷ []) ∷ one 1 (1 ∷ []) ∷ [])) (blank 4)

-- Sheet M, with the field of junction 1 and the cell of ending 0.
abbrev sheet_m : Node → Cell → List ℕ
sheet_m n c = write (draft worst 0 (terminal 0 ∷ n ∷ one 1 (1 ∷ []) ∷ [])) (c ∷ blank 2)

-- Sheet N, and what it becomes.
abbrev sheet_n : List ℕ
sheet_n = write (draft whole 1 (decision plain [] ∷ decision (counted 1) (action 1 (0 ∷ 0 ∷ 2 ∷ []) ∷ []) ∷ terminal 0 ∷ [])) (blank 3)

abbrev new_n : List ℕ
new_n = write (problem whole 0 (decision (counted 1) (action 1 (1 ∷ 1 ∷ 2 ∷ []) ∷ []) ∷ decision plain [] ∷ terminal 0 ∷ [])) (blank 3)

-- one junction that points to itself, twice; and two endings, of costs 5 and 7
abbrev points_twice : Kind → List ℕ
points_twice k = write (draft k 0 (one 1 (0 ∷ 0 ∷ []) ∷ [])) (blank 1)

abbrev two_endings : List ℕ
two_endings = write (problem worst 0 (terminal 5 ∷ terminal 7 ∷ [])) (blank 2)

-- the refusal of a draft with room enough, and with a sheet's list of old numbers that begins so
abbrev refused : List ℕ → List ℕ
refused s = rearrange_refusal s 4096 (length s) 4096 ∷ []

abbrev refused_back : List ℕ → List ℕ
refused_back list = restore_refusal sheet_a 4096 list 81 ∷ []

-- a table, and a list, of as many entries as are asked for, each 7
abbrev sevens : List ℕ
sevens = replicate 4096 7

-- The worked examples.
unfoldable pub rows : List Row
rows =
    row "S11.52 sheet" (rearranged_bytes sheet_k) sheet_a
    ∷ row "S11.52 output" (rearranged_output sheet_k sevens (sheet_k ++ (9 ∷ 9 ∷ [])) sevens) (sheet_a ++ (9 ∷ 9 ∷ []))
    ∷ row "S11.52 list" (take 6 (rearranged_list sheet_k sevens sheet_k sevens)) (2 ∷ 3 ∷ 0 ∷ 1 ∷ 0 ∷ 0 ∷ [])
    ∷ row "S11.52 table" (take 6 (rearranged_table sheet_k sevens sheet_k sevens)) (8 ∷ 20 ∷ 32 ∷ 61 ∷ 0 ∷ 0 ∷ [])
    ∷ row "S11.52 back" (restored_bytes sheet_a (2 ∷ 3 ∷ 0 ∷ 1 ∷ [])) sheet_k
    ∷ row "S11.52 its output" (restored_output sheet_a sevens (2 ∷ 3 ∷ 0 ∷ 1 ∷ sevens) (sheet_a ++ (9 ∷ 9 ∷ []))) (sheet_k ++ (9 ∷ 9 ∷ []))
    ∷ row "S11.52 its table" (take 6 (restored_table sheet_a sevens (2 ∷ 3 ∷ 0 ∷ 1 ∷ sevens) sheet_a)) (8 ∷ 37 ∷ 57 ∷ 69 ∷ 0 ∷ 0 ∷ [])
    ∷ row "S11.52 price" (report (rearranged_bytes sheet_k) 4096 largest) (100 ∷ 500 ∷ 3 ∷ 3 ∷ [])
    ∷ row "S11.53" (rearranged_bytes (with_cells (cell 100 1 0) (cell 0 1 0) (cell 500 1 0))) settled_a
    ∷ row "S11.53 accepted" (refused (with_cells (cell 100 1 0) (cell 0 1 0) (cell 500 1 0))) (0 ∷ [])
    ∷ row "S11.54 worked" (refusal sheet_k 4096 1 ∷ []) (3 ∷ [])
    ∷ row "S11.54 to the inverse" (restore_refusal sheet_k 4096 (2 ∷ 3 ∷ 0 ∷ 1 ∷ sevens) 81 ∷ []) (3 ∷ [])
    ∷ row "S11.54 no draft" (refused sheet_a) (3 ∷ [])
    ∷ row "S11.55" (order (problem_of sheet_l)) (2 ∷ 0 ∷ 3 ∷ 1 ∷ [])
    ∷ row "S11.55 back" (restored_bytes (rearranged_bytes sheet_l) (2 ∷ 0 ∷ 3 ∷ 1 ∷ [])) sheet_l
    ∷ row "S11.56" (refused (sheet_m (one 1 (2 ∷ [])) (cell 0 0 0))) (11 ∷ [])
    ∷ row "S11.56 before 7" (refused (sheet_m (one 1 (2 ∷ [])) (cell 5 0 0))) (11 ∷ [])
    ∷ row "S11.56 of one stage" (refused (write (draft worst 0 (one 1 (0 ∷ []) ∷ [])) (blank 1))) (11 ∷ [])
    ∷ row "S11.57 after 5" (refused (sheet_m (one 0 (2 ∷ [])) (cell 0 0 0))) (5 ∷ [])
    ∷ row "S11.57 after 10" (refused (sheet_m (decision (counted 2) (action 1 (2 ∷ []) ∷ [])) (cell 0 0 0))) (10 ∷ [])
    ∷ row "S11.57 after 4" (refused (take 55 (sheet_m (one 1 (2 ∷ [])) (cell 0 0 0)))) (4 ∷ [])
    ∷ row "S11.58 no stage" (refused (sheet_m (one 1 (3 ∷ [])) (cell 0 0 0))) (6 ∷ [])
    ∷ row "S11.58 out of order" (refused (sheet_m (one 1 (2 ∷ 1 ∷ [])) (cell 0 0 0))) (6 ∷ [])
    ∷ row "S11.58 in order" (refused (sheet_m (one 1 (1 ∷ 2 ∷ [])) (cell 0 0 0))) (11 ∷ [])
    ∷ row "S11.59 worst" (refused (points_twice worst)) (6 ∷ [])
    ∷ row "S11.59 whole" (refused (points_twice whole)) (11 ∷ [])
    ∷ row "S11.60 value" (refused (with_cells (cell 101 0 0) (cell 0 0 0) (cell 0 0 0))) (7 ∷ [])
    ∷ row "S11.60 mark" (refused (with_cells (cell 0 1 0) (cell 0 0 0) (cell 0 0 0))) (8 ∷ [])
    ∷ row "S11.61 output" (rearrange_refusal sheet_k 4096 80 4096 ∷ rearrange_refusal sheet_k 4096 81 4096 ∷ []) (1 ∷ 0 ∷ [])
    ∷ row "S11.61 list" (rearrange_refusal sheet_k 4096 81 4095 ∷ rearrange_refusal sheet_k 4096 81 4096 ∷ []) (1 ∷ 0 ∷ [])
    ∷ row "S11.61 table" (rearrange_refusal sheet_k 4095 81 4096 ∷ rearrange_refusal sheet_k 4096 81 4096 ∷ []) (1 ∷ 0 ∷ [])
    ∷ row "S11.61 before 2" (rearrange_refusal [] 4096 0 4095 ∷ rearrange_refusal [] 4096 0 4096 ∷ []) (1 ∷ 2 ∷ [])
    ∷ row "S11.62" (rearranged_bytes sheet_n) new_n
    ∷ row "S11.63 lacks 1" (refused_back (2 ∷ 3 ∷ 0 ∷ 0 ∷ replicate 4092 9999)) (11 ∷ [])
    ∷ row "S11.63 too large" (refused_back (2 ∷ 3 ∷ 0 ∷ 4 ∷ replicate 4092 9999)) (11 ∷ [])
    ∷ row "S11.63 much too large" (refused_back (2 ∷ 3 ∷ 0 ∷ 65537 ∷ replicate 4092 9999)) (11 ∷ [])
    ∷ row "S11.63 unread" (refused_back (2 ∷ 3 ∷ 0 ∷ 1 ∷ replicate 4092 9999)) (0 ∷ [])
    ∷ row "S11.63 sheet K" (restored_bytes sheet_a (2 ∷ 3 ∷ 0 ∷ 1 ∷ replicate 4092 9999)) sheet_k
    ∷ row "S11.64" (rearranged_bytes (restored_bytes two_endings (1 ∷ 0 ∷ [])))
    (write (problem worst 1 (terminal 7 ∷ terminal 5 ∷ [])) (blank 2))
    ∷ row "S11.65" (rearranged_bytes (6 ∷ drop 1 sheet_a)) sheet_a
    ∷ row "S11.65 list" (order (problem_of (6 ∷ drop 1 sheet_a))) (0 ∷ 1 ∷ 2 ∷ 3 ∷ [])
    ∷ []
