-- Reading bytes as a problem and its cells: the head, then each stage's field in turn. The first field out of place ends the reading
-- (S4.4). `..Good` says whether fields are in place, `..Read` what they say; what is read where a field is out of place is never looked
-- at.
use Rattle.std.specs.Prelude.{ℕ, zero, suc, ◌+◌, ◌-◌, ◌/◌, ◌%◌, Bool, true, false, List, [], ◌∷◌, length, get_or, drop, eqb, leb}
use Rattle.model.specs.Tests.{fork, also, all}
use Rattle.model.specs.Problem.{Kind, worst, whole, Action, action, Form, plain, counted, Node, terminal, decision}
use Rattle.model.specs.Problem.{Problem, Cell, cell}
use Rattle.model.specs.Limits.{max_actions}
use Rattle.model.specs.Format.{be16, be32, terminal_tag, counted_tag, decision_tag, action_tag, terminal_length, decision_length}
use Rattle.model.specs.Format.{min_action_length, max_action_length}
use Rattle.model.specs.Format.{length_in, content_in, kind_in, states_in, start_in, terminal_cost_in}
use Rattle.model.specs.Format.{terminal_value_in, decision_value_in, count_in}
use Rattle.model.specs.Format.{action_cost_in, successors_in, cost_bytes, successor_bytes, mark_behind, chosen_behind}
use Rattle.model.specs.Format.{head_size, terminal_size, decision_size}

-- Below, r is what is left of the bytes. No tag is 0, which is read past the end.
abbrev pub tag : List ℕ → ℕ
tag r = get_or r 0 0

-- the length that a field's own bytes give for its content, and the size of the whole field
abbrev pub content_length : List ℕ → ℕ
content_length r = be16 r length_in

abbrev pub field_size : List ℕ → ℕ
field_size r = content_in + content_length r

-- a check's field: a content of 6 to 36 bytes, even, all there
unfoldable pub action_fits : List ℕ → Bool
action_fits r =
    all (
    leb min_action_length (content_length r) ∷ leb (content_length r) max_action_length ∷ eqb (content_length r % 2) 0
    ∷ leb (field_size r) (length r) ∷ []
    )

unfoldable pub successors_read : ℕ → List ℕ → List ℕ
successors_read zero r = []
successors_read (suc n) r = be16 r 0 ∷ successors_read n (drop successor_bytes r)

unfoldable pub action_read : List ℕ → Action
action_read r = action (be32 r action_cost_in) (successors_read ((content_length r - cost_bytes) / successor_bytes) (drop successors_in r))

-- The checks at the front of r, of which there may be `most`: are they in place, what do they say, how many bytes do they take.
unfoldable pub actions_good : ℕ → List ℕ → Bool
actions_good zero r = fork (eqb (tag r) action_tag) (λ _. false) (λ _. true)
actions_good (suc most) r =
    fork (eqb (tag r) action_tag) (λ _. also (action_fits r) (λ _. actions_good most (drop (field_size r) r))) (λ _. true)

unfoldable pub actions_read : ℕ → List ℕ → List Action
actions_read zero r = []
actions_read (suc most) r = fork (eqb (tag r) action_tag) (λ _. action_read r ∷ actions_read most (drop (field_size r) r)) (λ _. [])

unfoldable pub actions_long : ℕ → List ℕ → ℕ
actions_long zero r = 0
actions_long (suc most) r = fork (eqb (tag r) action_tag) (λ _. field_size r + actions_long most (drop (field_size r) r)) (λ _. 0)

-- what follows them
abbrev pub past_actions : ℕ → List ℕ → List ℕ
past_actions most r = drop (actions_long most r) r

-- a field with a content of n bytes: is that its length, and is it all there
unfoldable pub field_fits : ℕ → List ℕ → Bool
field_fits n r = all (eqb (content_length r) n ∷ leb (content_in + n) (length r) ∷ [])

-- a junction's form: counted where its tag says so
unfoldable pub form_read : List ℕ → Form
form_read r = fork (eqb (tag r) counted_tag) (λ _. counted (get_or r count_in 0)) (λ _. plain)

-- a junction's own field: the tag and the length of its form
unfoldable pub header_fits : List ℕ → Bool
header_fits r = also (eqb (tag r) (decision_tag (form_read r))) (λ _. field_fits (decision_length (form_read r)) r)

-- what follows it
abbrev pub past_header : List ℕ → List ℕ
past_header r = drop (decision_size (form_read r)) r

unfoldable pub decision_fits : List ℕ → Bool
decision_fits r = also (header_fits r) (λ _. actions_good max_actions (past_header r))

-- n stages: are they in place with nothing behind them; their nodes; their cells
unfoldable pub nodes_good : ℕ → List ℕ → Bool
nodes_good zero r = eqb (length r) 0
nodes_good (suc n) r =
    fork (eqb (tag r) terminal_tag) (λ _. also (field_fits terminal_length r) (λ _. nodes_good n (drop terminal_size r)))
    (λ _. also (decision_fits r) (λ _. nodes_good n (past_actions max_actions (past_header r))))

unfoldable pub nodes_read : ℕ → List ℕ → List Node
nodes_read zero r = []
nodes_read (suc n) r =
    fork (eqb (tag r) terminal_tag) (λ _. terminal (be32 r terminal_cost_in) ∷ nodes_read n (drop terminal_size r))
    (λ _. decision (form_read r) (actions_read max_actions (past_header r)) ∷ nodes_read n (past_actions max_actions (past_header r)))

abbrev pub terminal_cell : List ℕ → Cell
terminal_cell r = cell (be32 r terminal_value_in) (get_or r (terminal_value_in + mark_behind) 0) 0

abbrev pub decision_cell : List ℕ → Cell
decision_cell r =
    cell (be32 r decision_value_in) (get_or r (decision_value_in + mark_behind) 0) (get_or r (decision_value_in + chosen_behind) 0)

unfoldable pub cells_read : ℕ → List ℕ → List Cell
cells_read zero r = []
cells_read (suc n) r =
    fork (eqb (tag r) terminal_tag) (λ _. terminal_cell r ∷ cells_read n (drop terminal_size r))
    (λ _. decision_cell r ∷ cells_read n (past_actions max_actions (past_header r)))

unfoldable pub kind_of : ℕ → Kind
kind_of zero = worst
kind_of (suc b) = whole

-- The problem and the cells that a sheet's bytes say.
unfoldable pub problem_of : List ℕ → Problem
problem_of s =
    record {
      head = tag s;
      kind = kind_of (get_or s kind_in 0);
      start = be16 s start_in;
      nodes = nodes_read (be16 s states_in) (drop head_size s);
    }

unfoldable pub cells_of : List ℕ → List Cell
cells_of s = cells_read (be16 s states_in) (drop head_size s)
