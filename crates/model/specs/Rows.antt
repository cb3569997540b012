-- The worked examples (S11), in one table. `proofs/RowsHold.antt` has one proof across it that the definitions give what is expected.
use Rattle.std.specs.Prelude.{ℕ, zero, suc, ◌+◌, ◌*◌, ◌^◌, min, ◌≡◌, List, [], ◌∷◌, ◌++◌, length, get_or, set, take, drop, replicate}
use Prim.Native.String.{String}
use Rattle.model.specs.Problem.{Kind, worst, whole, Action, action, plain, Node, terminal, decision, problem, Cell, cell}
use Rattle.model.specs.Format.{bytes2, successors_bytes, write}
use Rattle.model.specs.Limits.{max_states, ceiling, no_plan}
use Rattle.model.specs.Questions.{refusal}
use Rattle.model.specs.Report.{largest, report, bytes_after}

-- what a row says: outcome, price, passes and raises in numbers, or that the sheet is accepted
pub data Expected : Type 0 where
  answers : List ℕ → Expected
  accepts : Expected

-- a row's name, which is what a failing check says of it; a sheet, the number of table entries, the budget, and what is expected
pub record Row : Type 0 where
  pub name : String
  pub sheet : List ℕ
  pub entries : ℕ
  pub budget : ℕ
  pub expected : Expected

-- what it is for a row to hold
unfoldable pub Says : List ℕ → ℕ → ℕ → Expected → Type 0
Says s entries budget (answers xs) = report s entries budget ≡ xs
Says s entries budget accepts = refusal s entries budget ≡ 0

abbrev pub Holds : Row → Type 0
Holds r = Says r.sheet r.entries r.budget r.expected

-- Sheet A, byte by byte.
abbrev pub sheet_a : List ℕ
sheet_a =
    1 ∷ 0 ∷ 5 ∷ 0 ∷ 0 ∷ 4 ∷ 0 ∷ 0
    ∷ 3 ∷ 0 ∷ 6 ∷ 0 ∷ 0 ∷ 0 ∷ 0 ∷ 0 ∷ 0
    ∷ 4 ∷ 0 ∷ 8 ∷ 0 ∷ 0 ∷ 0 ∷ 200 ∷ 0 ∷ 1 ∷ 0 ∷ 3
    ∷ 4 ∷ 0 ∷ 6 ∷ 0 ∷ 0 ∷ 1 ∷ 244 ∷ 0 ∷ 3
    ∷ 3 ∷ 0 ∷ 6 ∷ 0 ∷ 0 ∷ 0 ∷ 0 ∷ 0 ∷ 0
    ∷ 4 ∷ 0 ∷ 8 ∷ 0 ∷ 0 ∷ 1 ∷ 144 ∷ 0 ∷ 2 ∷ 0 ∷ 3
    ∷ 2 ∷ 0 ∷ 9 ∷ 0 ∷ 0 ∷ 0 ∷ 100 ∷ 0 ∷ 0 ∷ 0 ∷ 0 ∷ 0
    ∷ 2 ∷ 0 ∷ 9 ∷ 0 ∷ 0 ∷ 0 ∷ 0 ∷ 0 ∷ 0 ∷ 0 ∷ 0 ∷ 0
    ∷ []

-- Sheet B of a kind, with its junction's value, its first finding, and the mark of ending 1.
abbrev sheet_b : ℕ → ℕ → ℕ → ℕ → List ℕ
sheet_b kind value finding mark =
    1 ∷ 0 ∷ 5 ∷ kind ∷ 0 ∷ 3 ∷ 0 ∷ 0
    ∷ 3 ∷ 0 ∷ 6 ∷ 0 ∷ 0 ∷ 0 ∷ value ∷ 0 ∷ 0
    ∷ 4 ∷ 0 ∷ 8 ∷ 0 ∷ 0 ∷ 0 ∷ 100 ∷ 0 ∷ finding ∷ 0 ∷ 2
    ∷ 2 ∷ 0 ∷ 9 ∷ 0 ∷ 0 ∷ 0 ∷ 30 ∷ 0 ∷ 0 ∷ 0 ∷ 0 ∷ mark
    ∷ 2 ∷ 0 ∷ 9 ∷ 0 ∷ 0 ∷ 0 ∷ 50 ∷ 0 ∷ 0 ∷ 0 ∷ 0 ∷ 0
    ∷ []

-- Sheet C of a kind, with the costs of its endings.
abbrev pub sheet_c : ℕ → ℕ → ℕ → ℕ → ℕ → List ℕ
sheet_c kind one two three four =
    1 ∷ 0 ∷ 5 ∷ kind ∷ 0 ∷ 5 ∷ 0 ∷ 0
    ∷ 3 ∷ 0 ∷ 6 ∷ 0 ∷ 0 ∷ 0 ∷ 0 ∷ 0 ∷ 0
    ∷ 4 ∷ 0 ∷ 12 ∷ 0 ∷ 0 ∷ 0 ∷ 10 ∷ 0 ∷ 1 ∷ 0 ∷ 2 ∷ 0 ∷ 3 ∷ 0 ∷ 4
    ∷ 2 ∷ 0 ∷ 9 ∷ 0 ∷ 0 ∷ 0 ∷ one ∷ 0 ∷ 0 ∷ 0 ∷ 0 ∷ 0
    ∷ 2 ∷ 0 ∷ 9 ∷ 0 ∷ 0 ∷ 0 ∷ two ∷ 0 ∷ 0 ∷ 0 ∷ 0 ∷ 0
    ∷ 2 ∷ 0 ∷ 9 ∷ 0 ∷ 0 ∷ 0 ∷ three ∷ 0 ∷ 0 ∷ 0 ∷ 0 ∷ 0
    ∷ 2 ∷ 0 ∷ 9 ∷ 0 ∷ 0 ∷ 0 ∷ four ∷ 0 ∷ 0 ∷ 0 ∷ 0 ∷ 0
    ∷ []

-- Sheet D of a kind, with the values of its junction and of its ending.
abbrev pub sheet_d : ℕ → ℕ → ℕ → List ℕ
sheet_d kind value end =
    1 ∷ 0 ∷ 5 ∷ kind ∷ 0 ∷ 2 ∷ 0 ∷ 0
    ∷ 3 ∷ 0 ∷ 6 ∷ 0 ∷ 0 ∷ 0 ∷ value ∷ 0 ∷ 0
    ∷ 4 ∷ 0 ∷ 8 ∷ 0 ∷ 0 ∷ 0 ∷ 100 ∷ 0 ∷ 1 ∷ 0 ∷ 1
    ∷ 2 ∷ 0 ∷ 9 ∷ 0 ∷ 0 ∷ 0 ∷ 30 ∷ 0 ∷ 0 ∷ 0 ∷ end ∷ 0
    ∷ []

-- one ending of value 0
abbrev ending : ℕ → List ℕ
ending cost = 2 ∷ 0 ∷ 9 ∷ 0 ∷ 0 ∷ 0 ∷ cost ∷ 0 ∷ 0 ∷ 0 ∷ 0 ∷ 0 ∷ []

abbrev one_ending : ℕ → List ℕ
one_ending cost = 1 ∷ 0 ∷ 5 ∷ 0 ∷ 0 ∷ 1 ∷ 0 ∷ 0 ∷ ending cost

repeat : ℕ → List ℕ → List ℕ
repeat zero xs = []
repeat (suc n) xs = xs ++ repeat n xs

-- s, s + 1, .., n of them
up_from : ℕ → ℕ → List ℕ
up_from s zero = []
up_from s (suc n) = s ∷ up_from (suc s) n

-- the own field of a plain junction, and of a counted one with the number that it writes; of value 0, open
abbrev plain_field : List ℕ
plain_field = 3 ∷ 0 ∷ 6 ∷ 0 ∷ 0 ∷ 0 ∷ 0 ∷ 0 ∷ 0 ∷ []

abbrev counted_field : ℕ → List ℕ
counted_field number = 5 ∷ 0 ∷ 7 ∷ 0 ∷ 0 ∷ 0 ∷ 0 ∷ 0 ∷ 0 ∷ number ∷ []

-- a junction with such a field and n checks of cost 1, and the ending that they lead to
abbrev many_checks : List ℕ → ℕ → List ℕ
many_checks field n =
    (1 ∷ 0 ∷ 5 ∷ 0 ∷ 0 ∷ 2 ∷ 0 ∷ 0 ∷ []) ++ field ++ repeat n (4 ∷ 0 ∷ 6 ∷ 0 ∷ 0 ∷ 0 ∷ 1 ∷ 0 ∷ 1 ∷ []) ++ ending 0

-- a sheet of a kind and so many stages: a junction with one check of a cost and some findings, and the endings behind it
abbrev one_check : ℕ → ℕ → ℕ → List ℕ → List ℕ → List ℕ
one_check kind stages cost findings endings =
    (1 ∷ 0 ∷ 5 ∷ kind ∷ 0 ∷ stages ∷ 0 ∷ 0 ∷ 3 ∷ 0 ∷ 6 ∷ 0 ∷ 0 ∷ 0 ∷ 0 ∷ 0 ∷ 0 ∷ [])
    ++ (4 ∷ bytes2 (4 + 2 * length findings)) ++ (0 ∷ 0 ∷ 0 ∷ cost ∷ []) ++ successors_bytes findings ++ endings

-- a junction with one check of n findings, and the endings that they lead to
abbrev many_findings : ℕ → List ℕ
many_findings n = one_check 0 (suc n) 1 (up_from 1 n) (repeat n (ending 0))

-- Sheet E with these findings in the place of its own.
abbrev pub sheet_e : List ℕ → List ℕ
sheet_e findings = one_check 1 3 10 findings (ending 5 ++ ending 7)

-- Two sheets beside those of S11, each for a slip that its rows leave unseen.
-- The chosen check is the one that passed: check 0 costs as little as check 1, and is abandoned because stage 1 fails.
abbrev abandoned : List ℕ
abandoned =
    write
    (problem worst 0 (
    decision plain (action 100 (1 ∷ 3 ∷ []) ∷ action 150 (2 ∷ []) ∷ []) ∷ decision plain (action 10 (4 ∷ []) ∷ [])
    ∷ terminal 0 ∷ terminal 50 ∷ terminal 20 ∷ []
    ))
    (cell 150 0 0 ∷ cell 0 0 0 ∷ cell 0 0 0 ∷ cell 50 0 0 ∷ cell 0 0 0 ∷ [])

-- A sum that does not fit 32 bits: a whole sheet, settled at its least costs, cut, whose start lists stage 1, at the ceiling, m times.
-- From the ending upwards they are 1,000,000, then 1,000,000 + 16 · 1,000,000, 1,000,000 + 16 · 17,000,000, and
-- 1,000,000 + 4 · 273,000,000, which is above the ceiling.
abbrev at_ceiling : ℕ → List ℕ
at_ceiling m =
    write
    (problem whole 0 (
    decision plain (action 1 (replicate m 1) ∷ []) ∷ decision plain (action 1000000 (replicate 4 2) ∷ [])
    ∷ decision plain (action 1000000 (replicate 16 3) ∷ []) ∷ decision plain (action 1000000 (replicate 16 4) ∷ [])
    ∷ terminal 1000000 ∷ []
    ))
    (cell ceiling 1 0 ∷ cell ceiling 1 0 ∷ cell 273000000 1 0 ∷ cell 17000000 1 0 ∷ cell 1000000 1 0 ∷ [])

-- Sheet F with its junction's value, mark and chosen check.
abbrev pub sheet_f : ℕ → ℕ → ℕ → List ℕ
sheet_f value mark chosen = write (problem worst 0 (decision plain [] ∷ [])) (cell value mark chosen ∷ [])

-- Sheet G of a kind.
abbrev pub sheet_g : Kind → List ℕ
sheet_g k =
    write
    (problem k 0 (decision plain (action 10 (1 ∷ []) ∷ action 100 (2 ∷ []) ∷ []) ∷ decision plain [] ∷ terminal 30 ∷ []))
    (cell 0 0 0 ∷ cell 0 0 0 ∷ cell 0 0 0 ∷ [])

-- Sheet H.
abbrev pub sheet_h : List ℕ
sheet_h =
    write
    (problem worst 0 (decision plain (action 10 (1 ∷ []) ∷ action 100 (1 ∷ []) ∷ []) ∷ decision plain [] ∷ []))
    (cell 0 0 0 ∷ cell 0 0 0 ∷ [])

-- Stages from number s on, i junctions and an ending: each junction's check, of cost 1,000,000, leads to the sixteen stages behind it, as
-- far as there are. On a whole sheet the i-th from the end then has the least cost 1,000,000 · 2^i, and is settled there, cut.
doubling : ℕ → ℕ → List Node
doubling s zero = terminal 1000000 ∷ []
doubling s (suc i) = decision plain (action 1000000 (up_from (suc s) (min 16 (suc i))) ∷ []) ∷ doubling (suc s) i

doubled : ℕ → List Cell
doubled zero = cell 1000000 1 0 ∷ []
doubled (suc i) = cell (min (1000000 * 2 ^ suc i) 1000000000) 1 0 ∷ doubled i

-- Sheet I with these checks at junction 0.
abbrev sheet_i : List Action → List ℕ
sheet_i acts =
    write
    (problem whole 0 (decision plain acts ∷ doubling 1 11 ++ (decision plain [] ∷ [])))
    (cell ceiling 0 0 ∷ doubled 11 ++ (cell ceiling 0 0 ∷ []))

-- Sheet J with the number that its junction writes.
abbrev pub sheet_j : ℕ → List ℕ
sheet_j number = take 8 sheet_a ++ counted_field number ++ drop 17 sheet_a

-- a sheet without so many bytes from an offset on
abbrev without : ℕ → ℕ → List ℕ → List ℕ
without from bytes s = take from s ++ drop (from + bytes) s

-- one ending of cost 70, with its value
abbrev ending_at : ℕ → List ℕ
ending_at value = write (problem worst 0 (terminal 70 ∷ [])) (cell value 0 0 ∷ [])

-- a row with a table of so many entries; with one of as many as are needed
abbrev row_with : String → ℕ → List ℕ → ℕ → Expected → Row
row_with name entries s budget e = record { name = name; sheet = s; entries = entries; budget = budget; expected = e }

abbrev row : String → List ℕ → ℕ → Expected → Row
row name = row_with name max_states

-- settled, over, stopped, none, refused: price, passes, raises
abbrev settled : ℕ → ℕ → ℕ → Expected
settled price passes raises = answers (100 ∷ price ∷ passes ∷ raises ∷ [])

abbrev over : ℕ → ℕ → ℕ → Expected
over price passes raises = answers (101 ∷ price ∷ passes ∷ raises ∷ [])

abbrev stopped : ℕ → ℕ → ℕ → Expected
stopped price passes raises = answers (102 ∷ price ∷ passes ∷ raises ∷ [])

abbrev none_left : ℕ → ℕ → Expected
none_left passes raises = answers (103 ∷ no_plan ∷ passes ∷ raises ∷ [])

abbrev refused_by : ℕ → Expected
refused_by n = answers (n ∷ 0 ∷ 0 ∷ 0 ∷ [])

-- the bytes that a call with such a table leaves
abbrev carried_on : List ℕ → ℕ → List ℕ
carried_on s budget = bytes_after s max_states budget

-- The rows of S11, but for the chain of 999 junctions (S11.13) and the 4,096 endings (S11.22), which are too large to compute here; then
-- more rows. They stand in the order of S11, but S11.21 stands right behind S11.14: were question 5 put before question 4, S11.14 would
-- fail, and the rows of S11.21, tested after it, would have 4,096 stages to compute.
unfoldable pub rows : List Row
unfolding repeat up_from doubling doubled
rows =
    row "S11.1" (one_ending 0) largest (settled 0 1 0)
    ∷ row "S11.2" (one_ending 70) 1 (settled 70 1 1)
    ∷ row "S11.3" sheet_a largest (settled 500 3 3)
    ∷ row "S11.4" sheet_a 2 (stopped 200 2 2)
    ∷ row "S11.5" (carried_on sheet_a 2) largest (settled 500 2 1)
    ∷ row "S11.6" (sheet_b 0 0 1 0) largest (settled 150 4 5)
    ∷ row "S11.7" (sheet_b 1 0 1 0) largest (settled 180 4 5)
    ∷ row "S11.8" (sheet_b 0 100 1 0) largest accepts
    ∷ row "S11.8" (sheet_b 0 101 1 0) largest (refused_by 7)
    ∷ row "S11.9" (set (sheet_b 0 0 1 0) 5 0) largest (refused_by 3)
    ∷ row "S11.10" (sheet_b 0 0 0 0) largest (refused_by 6)
    ∷ row "S11.11" (sheet_b 0 0 1 1) largest (refused_by 8)
    ∷ row "S11.12" sheet_a 0 (refused_by 9)
    ∷ row "S11.14" (take 80 (set sheet_a 23 0)) largest (refused_by 4)
    -- the number of stages is 16 · 256 + 0 and 16 · 256 + 1
    ∷ row "S11.21" (set (set (one_ending 0) 4 16) 5 0) largest (refused_by 4)
    ∷ row "S11.21" (set (set (one_ending 0) 4 16) 5 1) largest (refused_by 3)
    ∷ row "S11.15" (many_checks plain_field 16) largest accepts
    ∷ row "S11.15" (many_checks plain_field 17) largest (refused_by 4)
    ∷ row "S11.15" (many_findings 16) largest accepts
    ∷ row "S11.15" (many_findings 17) largest (refused_by 4)
    ∷ row_with "S11.20" 4095 sheet_a largest (refused_by 1)
    ∷ row_with "S11.20" 4096 sheet_a largest (settled 500 3 3)
    ∷ row_with "S11.20" 4200 sheet_a largest (settled 500 3 3)
    ∷ row "S11.17" (sheet_c 0 10 40 40 20) largest (settled 50 4 7)
    ∷ row "S11.18" (sheet_c 1 10 40 40 20) largest (settled 120 6 9)
    ∷ row "S11.19" (sheet_c 0 0 0 0 0) largest (settled 10 2 1)
    ∷ row "S11.23" (sheet_d 1 0 0) largest (settled 160 3 3)
    ∷ row "S11.24" (sheet_d 0 0 0) largest (refused_by 6)
    ∷ row "S11.25" (sheet_d 1 0 0) 2 (stopped 100 2 2)
    ∷ row "S11.25" (carried_on (sheet_d 1 0 0) 2) largest (settled 160 2 1)
    ∷ row "S11.26" (sheet_d 1 160 30) largest accepts
    ∷ row "S11.26" (sheet_d 1 161 30) largest (refused_by 7)
    ∷ row "S11.27" (one_check 1 2 100 (replicate 16 1) (ending 30)) largest (settled 580 3 3)
    ∷ row "S11.28" (sheet_e (1 ∷ 1 ∷ 2 ∷ 2 ∷ 2 ∷ [])) largest (settled 41 4 5)
    ∷ row "S11.29" (sheet_e (1 ∷ 2 ∷ 1 ∷ [])) largest (refused_by 6)
    ∷ row "S11.29" (sheet_e (0 ∷ 0 ∷ [])) largest (refused_by 6)
    ∷ row "S11.29" (sheet_e (3 ∷ 3 ∷ [])) largest (refused_by 6)
    ∷ row "S11.31" (sheet_f 0 0 0) largest (none_left 1 1)
    ∷ row "S11.31" (sheet_f 0 0 0) 1 (none_left 1 1)
    ∷ row "S11.31" (carried_on (sheet_f 0 0 0) 1) largest (none_left 1 0)
    ∷ row "S11.32" (sheet_f no_plan 0 0) largest (none_left 1 0)
    ∷ row "S11.32" (sheet_f 1000000002 0 0) largest (refused_by 5)
    ∷ row "S11.33" (sheet_f no_plan 1 0) largest accepts
    ∷ row "S11.33" (sheet_f ceiling 1 0) largest (refused_by 8)
    ∷ row "S11.33" (sheet_f 0 1 0) largest (refused_by 8)
    ∷ row "S11.34" (sheet_f 0 0 1) largest (refused_by 5)
    ∷ row "S11.34" (sheet_f no_plan 1 1) largest (refused_by 5)
    ∷ row "S11.35" (ending_at no_plan) largest (refused_by 7)
    ∷ row "S11.35" (ending_at 1000000002) largest (refused_by 5)
    ∷ row "S11.36" (take 16 (sheet_f 0 0 0)) largest (refused_by 2)
    ∷ row "S11.36" (take 19 (one_ending 0)) largest (refused_by 4)
    ∷ row "S11.37" (sheet_g worst) largest (settled 130 4 5)
    ∷ row "S11.37" (sheet_g whole) largest (settled 130 4 5)
    ∷ row "S11.38" sheet_h largest (none_left 3 3)
    ∷ row "S11.39" sheet_h 2 (stopped 10 2 2)
    ∷ row "S11.39" (carried_on sheet_h 2) largest (none_left 2 1)
    ∷ row "S11.40" (sheet_i (action 1 (13 ∷ []) ∷ action 1 (1 ∷ 2 ∷ []) ∷ [])) largest (over 1000000000 1 1)
    ∷ row "S11.40" (sheet_i (action 1 (1 ∷ 2 ∷ 13 ∷ []) ∷ [])) largest (none_left 2 2)
    ∷ row "S11.42" (sheet_j 2) largest (settled 500 3 3)
    ∷ row "S11.42" (take 38 (sheet_j 2) ++ counted_field 1 ++ drop 47 (sheet_j 2)) largest (settled 500 3 3)
    ∷ row "S11.43" (sheet_j 2) 2 (stopped 200 2 2)
    ∷ row "S11.43" (carried_on (sheet_j 2) 2) largest (settled 500 2 1)
    ∷ row "S11.44" (sheet_j 1) largest (refused_by 10)
    ∷ row "S11.44" (sheet_j 3) largest (refused_by 10)
    ∷ row "S11.44" (sheet_j 0) largest (refused_by 10)
    ∷ row "S11.44" (sheet_j 200) largest (refused_by 10)
    ∷ row "S11.45" (without 28 9 sheet_a) largest (settled 700 4 6)
    ∷ row "S11.45" (without 29 9 (sheet_j 2)) largest (refused_by 10)
    ∷ row "S11.45" (without 18 11 (sheet_j 2)) largest (refused_by 10)
    ∷ row "S11.46" ((1 ∷ 0 ∷ 5 ∷ 0 ∷ 0 ∷ 1 ∷ 0 ∷ 0 ∷ []) ++ counted_field 0) largest (none_left 1 1)
    ∷ row "S11.46" ((1 ∷ 0 ∷ 5 ∷ 0 ∷ 0 ∷ 1 ∷ 0 ∷ 0 ∷ []) ++ counted_field 1) largest (refused_by 10)
    ∷ row "S11.47" (many_checks (counted_field 16) 16) largest accepts
    ∷ row "S11.47" (many_checks (counted_field 17) 16) largest (refused_by 10)
    ∷ row "S11.47" (many_checks (counted_field 17) 17) largest (refused_by 4)
    -- the last field is cut, check 0 costs 0, its first finding is junction 0, the budget is 0
    ∷ row "S11.48" (take 81 (sheet_j 1)) largest (refused_by 4)
    ∷ row "S11.48" (set (sheet_j 1) 24 0) largest (refused_by 10)
    ∷ row "S11.48" (set (sheet_j 1) 26 0) largest (refused_by 10)
    ∷ row "S11.48" (sheet_j 1) 0 (refused_by 10)
    ∷ row "S11.49" (set (sheet_j 2) 8 3) largest (refused_by 4)
    ∷ row "S11.49" (set sheet_a 8 5) largest (refused_by 4)
    ∷ row "S11.50" (take 37 sheet_a ++ counted_field 2 ++ drop 46 sheet_a) largest (refused_by 10)
    -- beside those of S11
    ∷ row "5 at the ceiling" (at_ceiling 5) largest (over 1000000000 1 0)
    ∷ row "9 at the ceiling" (at_ceiling 9) largest (over 1000000000 1 0)
    ∷ row "16 at the ceiling" (at_ceiling 16) largest (over 1000000000 1 0)
    ∷ row "refusal 5" (set sheet_a 23 0) largest (refused_by 5)
    ∷ row "an abandoned check" abandoned largest (settled 150 1 1)
    ∷ row "an abandoned check, carried on" (carried_on abandoned largest) largest (settled 150 1 0)
    ∷ row "J stopped, a check lost" (without 29 9 (carried_on (sheet_j 2) 2)) largest (refused_by 10)
    ∷ []

-- row i of a table
abbrev pub row_at : List Row → ℕ → Row
row_at rs i = get_or rs i (row "" [] 0 accepts)
