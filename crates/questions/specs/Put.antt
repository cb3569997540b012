-- Questions 5, 6 and 8 of one state; what reading the fields gives.
use Rattle.std.specs.Prelude.{ℕ, ◌+◌, ◌<◌, Bool, true, false, List, [], ◌∷◌, length, Option, Some, None}
use Rattle.model.specs.Tests.{fork, also, all}
use Rattle.model.specs.Problem.{Node, Problem, Cell, node_at, cell_of, solved}
use Rattle.model.specs.Format.{decision_size, actions_of}
use Rattle.model.specs.Read.{field_size, action_fits, form_read, header_fits, nodes_good, nodes_read}
use Rattle.model.specs.Questions.{count_right, costs_in_range, cell_in_range, mark_earned}
use Rattle.model.specs.Questions.{question6, question6_draft, Question, question}

-- question 5 of one state
unfoldable pub ranges_at : Node → Cell → Bool
ranges_at n c = all (costs_in_range n ∷ cell_in_range n c ∷ [])

-- the number of a decision's actions, none where the cost of one is out of range
unfoldable pub count_in_range : Node → Option ℕ
count_in_range n = fork (costs_in_range n) (λ _. Some (length (actions_of n))) (λ _. None)

-- the chosen action of a decision that has some is one of them
abbrev pub ChosenExists : Problem → List Cell → ℕ → Type 0
ChosenExists p cells s = 0 < length (actions_of (node_at p s)) → (cell_of cells s).chosen < length (actions_of (node_at p s))

-- the lowest number that a successor of state s may have: above its own, or, where that is not asked, any
unfoldable pub lowest_of : Bool → ℕ → ℕ
lowest_of true s = s + 1
lowest_of false s = 0

-- question 6, of an ordinary sheet and of a draft: is it asked that successors are above their decision?
unfoldable pub findings_by : Bool → Problem → Bool
findings_by true p = question6 p
findings_by false p = question6_draft p

-- question 8 of state s
unfoldable pub mark_at : Problem → List Cell → ℕ → Bool
mark_at p cells s = fork (solved (cell_of cells s)) (λ _. mark_earned p cells s (node_at p s)) (λ _. true)

-- the length of an action's field, of the bytes that it begins: none where it does not fit
unfoldable pub field_length : List ℕ → Option ℕ
field_length bs = fork (action_fits bs) (λ _. Some (field_size bs)) (λ _. None)

-- the length of a decision's own field, of the bytes that it begins: none where it does not fit
unfoldable pub header_size : List ℕ → Option ℕ
header_size bs = fork (header_fits bs) (λ _. Some (decision_size (form_read bs))) (λ _. None)

-- question 10 of some states
unfoldable pub counts_right : List Node → Bool
counts_right [] = true
counts_right (n ∷ ns) = also (count_right n) (λ _. counts_right ns)

-- questions 4 and 10 of n states, of the bytes that they begin
abbrev pub read_questions : ℕ → List ℕ → List Question
read_questions n bs = question 4 (λ _. nodes_good n bs) ∷ question 10 (λ _. counts_right (nodes_read n bs)) ∷ []
