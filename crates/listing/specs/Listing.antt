-- S10: what `price` prints.
use Rattle.std.specs.Prelude.{ℕ, zero, suc, ◌+◌, ◌*◌, ◌<◌, ◌≡◌, Bool, true, false, ◌||◌, List, [], ◌∷◌, ◌++◌, eqb, leb, length, drop}
use Rattle.std.specs.Prelude.{Option, Some, None as Nothing}
use Rattle.model.specs.declared.Outcome.{Outcome}
use Rattle.model.specs.declared.Outcome.TheVariants.{Refused, Settled, Over, Stopped, None}
use Rattle.model.specs.declared.Answer.{Answer}
use Rattle.model.specs.Tests.{fork, also}
use Rattle.model.specs.Problem.{Action, Form, Node, terminal, decision, Problem, Cell, states, node_at, action_at, cell_of, value_of, ◌∈◌}
use Rattle.model.specs.Read.{problem_of, cells_of}
use Rattle.model.specs.Limits.{max_states}
use Rattle.model.specs.QValue.{dearest}
use Rattle.model.specs.Questions.{ascending}
use Rattle.model.specs.Report.{largest, answer_to, bytes_after, table_after}
use Rattle.listing.specs.declared.Listing.{Listing}
use Rattle.listing.specs.Text.{ascii, decimal}

-- a word, and a number behind it
abbrev pub field : List ℕ → ℕ → List ℕ
field word x = word ++ decimal x

-- S10.2: line one is the outcome, the start's value, passes, raises; or `refused` and the number.
abbrev pub figures : List ℕ → Answer → List ℕ
figures word a = field word a.price ++ (field (ascii " ") a.passes ++ (field (ascii " ") a.raises ++ ascii "\n"))

abbrev pub line_of : Outcome → Answer → List ℕ
line_of (Refused n) a = field (ascii "refused ") n ++ ascii "\n"
line_of Settled a = figures (ascii "settled ") a
line_of Over a = figures (ascii "over ") a
line_of Stopped a = figures (ascii "stopped ") a
line_of None a = figures (ascii "none ") a

abbrev pub line_one : Answer → List ℕ
line_one a = line_of a.outcome a

-- the findings of the check that is chosen at a stage; an ending has none
abbrev pub chosen_successors_of : Node → Cell → List ℕ
chosen_successors_of (terminal cost) c = []
chosen_successors_of (decision form acts) c = (action_at acts c.chosen).successors

abbrev pub chosen_successors : Problem → List Cell → ℕ → List ℕ
chosen_successors p cells s = chosen_successors_of (node_at p s) (cell_of cells s)

-- the dearest of them (S2.9) by the values in the cells
abbrev pub dearest_chosen : Problem → List Cell → ℕ → ℕ
dearest_chosen p cells s = dearest (value_of cells) (chosen_successors p cells s)

-- S10.3, a stage's line: number, chosen check or `end`, value; then, at a junction, `by` and the dearest finding
abbrev pub choice_of : Node → Cell → List ℕ
choice_of (terminal cost) c = ascii " end"
choice_of (decision form acts) c = field (ascii " check ") c.chosen

abbrev pub line_end : Node → ℕ → List ℕ
line_end (terminal cost) t = ascii "\n"
line_end (decision form acts) t = field (ascii " by ") t ++ ascii "\n"

abbrev pub state_line : Problem → List Cell → ℕ → List ℕ
state_line p cells s =
    field (ascii "stage ") s
    ++ (choice_of (node_at p s) (cell_of cells s)
    ++ (field (ascii " value ") (cell_of cells s).value ++ line_end (node_at p s) (dearest_chosen p cells s)))

-- is t one of the listed?
unfoldable pub listed : ℕ → List ℕ → Bool
listed t [] = false
listed t (u ∷ us) = eqb t u || listed t us

-- S2.1: does the plan reach t from the start, by the checks chosen at stages below n?
unfoldable pub reached_below : Problem → List Cell → ℕ → ℕ → Bool
reached_below p cells zero t = eqb t p.start
reached_below p cells (suc n) t =
    reached_below p cells n t || also (reached_below p cells n n) (λ _. listed t (chosen_successors p cells n))

-- does the plan reach t? findings are above their own junction, so the stages below t decide
abbrev pub reached : Problem → List Cell → ℕ → Bool
reached p cells t = reached_below p cells t t

-- a line for each stage below n that the plan reaches, ascending
unfoldable pub state_lines : Problem → List Cell → ℕ → List ℕ
state_lines p cells zero = []
state_lines p cells (suc n) = state_lines p cells n ++ fork (reached p cells n) (λ _. state_line p cells n) (λ _. [])

-- the lines of some stages, in turn
unfoldable pub lines_of : Problem → List Cell → List ℕ → List ℕ
lines_of p cells [] = []
lines_of p cells (t ∷ ts) = state_line p cells t ++ lines_of p cells ts

-- S10.3, a stage has one line however often it is listed: the lines of the stages below n are those of some stages in turn, which ascend
-- strictly, and are the stages below n that the plan reaches
pub record EachOnce (p : Problem) (cells : List Cell) (n : ℕ) : Type 0 where
  pub on : List ℕ
  pub lines : state_lines p cells n ≡ lines_of p cells on
  pub rising : ascending 1 0 n on ≡ true
  pub only_reached : (t : ℕ) → t ∈ on → reached p cells t ≡ true
  pub each_reached : (t : ℕ) → t < n → reached p cells t ≡ true → t ∈ on

-- S10.3: only when settled do lines follow, of the sheet s as work left it
abbrev pub plan_of : Outcome → List ℕ → List ℕ
plan_of (Refused n) s = []
plan_of Settled s = state_lines (problem_of s) (cells_of s) (states (problem_of s))
plan_of Over s = []
plan_of Stopped s = []
plan_of None s = []

-- S10.9: the run from the stage s that goes from each junction to the stage that its line names by `by`, until an ending: the stages on it,
-- and what the checks on it and that ending cost together
pub data Run (p : Problem) (cells : List Cell) : ℕ → List ℕ → ℕ → Type 0 where
  ends : {s cost : ℕ} → node_at p s ≡ terminal cost → Run p cells s (s ∷ []) cost
  goes : {s c : ℕ} {form : Form} {acts : List Action} {on : List ℕ} → node_at p s ≡ decision form acts →
      Run p cells (dearest_chosen p cells s) on c →
      Run p cells s (s ∷ on) ((action_at acts (cell_of cells s).chosen).cost + c)

-- S10.1: the listing of a sheet that is worked with the largest budget and a table of so many entries
unfoldable pub listing : List ℕ → ℕ → List ℕ
listing s entries = line_one (answer_to s entries largest) ++ plan_of (answer_to s entries largest).outcome (bytes_after s entries largest)

-- The most bytes of line one, and of a stage's line, with twenty digits for every number: `settled ` and three numbers; `stage `,
-- ` check `, ` value ` and ` by ` with a number behind each.
abbrev pub max_line_one : ℕ
max_line_one = 71

abbrev pub max_state_line : ℕ
max_state_line = 105

-- No listing has more bytes than this. A shorter buffer is too short, whatever the sheet: it gets that answer, and sheet, table and buffer
-- are left as they are.
abbrev pub enough : ℕ
enough = max_line_one + max_state_line * max_states

-- what `list` answers
unfoldable pub listed_as : List ℕ → List ℕ → List ℕ → Option Listing
listed_as s t out =
    fork (leb enough (length out))
    (λ _. Some (record { length = length (listing s (length t)); outcome = (answer_to s (length t) largest).outcome })) (λ _. Nothing)

-- the sheet, the table and the buffer after it
unfoldable pub sheet_listed : List ℕ → List ℕ → List ℕ → List ℕ
sheet_listed s t out = fork (leb enough (length out)) (λ _. bytes_after s (length t) largest) (λ _. s)

unfoldable pub table_listed : List ℕ → List ℕ → List ℕ → List ℕ
table_listed s t out = fork (leb enough (length out)) (λ _. table_after s t largest) (λ _. t)

unfoldable pub text_listed : List ℕ → List ℕ → List ℕ → List ℕ
text_listed s t out = fork (leb enough (length out)) (λ _. listing s (length t) ++ drop (length (listing s (length t))) out) (λ _. out)
