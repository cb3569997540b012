-- S6: how a sheet is worked. Learning depth-first search, in sheet order, with a budget of raises.
use Rattle.std.specs.Prelude.{ℕ, zero, suc, Bool, true, false, List, [], ◌∷◌, ltb, length}
use Rattle.model.specs.Problem.{Kind, Action, Node, terminal, decision, Problem, Cell, states, node_at, action_at}
use Rattle.model.specs.Problem.{cell_of, value_of, solved, set_value, set_solved}
use Rattle.model.specs.Limits.{no_plan}
use Rattle.model.specs.QValue.{q, least}

-- the cells as work has left them, and the raises made so far
pub record Search : Type 0 where
  pub cells : List Cell
  pub raises : ℕ

-- how a visit ends: it succeeds, it fails, or work stops for want of budget
pub data Visit : Type 0 where
  success failure halt : Search → Visit

abbrev pub cell_at : Search → ℕ → Cell
cell_at w s = cell_of w.cells s

abbrev pub value_at : Search → ℕ → ℕ
value_at w s = value_of w.cells s

abbrev pub solved_at : Search → ℕ → Bool
solved_at w s = solved (cell_at w s)

-- how a check of a kind is priced by values. The procedure has it as its first argument, so that another one can be spoken of (S8.16); it
-- is that of S2.8, `q`, where no other is named.
abbrev pub Pricing : Type 0
Pricing = Kind → (ℕ → ℕ) → Action → ℕ

-- the price of a check by the current values
abbrev pub price_by : Pricing → Problem → Search → Action → ℕ
price_by price p w a = price p.kind (value_at w) a

-- what follows a test: the tested value stands in an argument and what follows is a function of the search, so that one alone is computed
unfoldable pub on_test : Bool → (Search → Visit) → (Search → Visit) → Search → Visit
on_test true f g w = f w
on_test false f g w = g w

-- what follows a success, and a failure; a halt ends everything
unfoldable pub on_visit : Visit → (Search → Visit) → (Search → Visit) → Visit
on_visit (success w) f g = f w
on_visit (failure w) f g = g w
on_visit (halt w) f g = halt w

-- the value of s becomes x, uncounted and counted as a raise
abbrev pub stored : ℕ → ℕ → Search → Search
stored s x w = record { cells = set_value w.cells s x; raises = w.raises }

abbrev pub raised : ℕ → ℕ → Search → Search
raised s x w = record { cells = set_value w.cells s x; raises = suc w.raises }

-- s is marked, and check i chosen
abbrev pub marked : ℕ → ℕ → Search → Search
marked s i w = record { cells = set_solved w.cells s i; raises = w.raises }

-- S6.8, S6.9: the one place where a value changes. A change to a larger value is a raise, and work stops just before the raise that would
-- go beyond the budget; to store the same value is no raise.
unfoldable pub update : ℕ → ℕ → ℕ → (Search → Visit) → Search → Visit
update budget s x next w =
    on_test (ltb (value_at w s) x)
    (on_test (ltb w.raises budget) (λ w'. next (raised s x w')) halt)
    (λ w'. next (stored s x w')) w

-- the value of s becomes x, s is marked with chosen check 0, and the visit succeeds
unfoldable pub finish : ℕ → ℕ → ℕ → Search → Visit
finish budget s x = update budget s x (λ w'. success (marked s 0 w'))

-- is the price of a check above the value of s?
unfoldable pub if_dear_by : Pricing → Problem → ℕ → Action → (Search → Visit) → (Search → Visit) → Search → Visit
if_dear_by price p s a f g w = on_test (ltb (value_at w s) (price_by price p w a)) f g w

module _ (price : Pricing) (p : Problem) (budget : ℕ) where
  -- S6.5: the findings of a in turn, and after each visit a is priced anew: a failed visit, or a price now above the value of s, abandons
  -- it
  unfoldable pub visit_all_by : (ℕ → Search → Visit) → ℕ → Action → List ℕ → Search → Visit
  visit_all_by visit s a [] w = success w
  visit_all_by visit s a (t ∷ ts) w = on_visit (visit t w) (if_dear_by price p s a failure (visit_all_by visit s a ts)) failure

  -- S6.6: check i, whose price is not above the value: if every finding passes, s is marked and that check chosen; else what is next
  unfoldable pub try_one_by : (ℕ → Search → Visit) → ℕ → List Action → ℕ → (Search → Visit) → Search → Visit
  try_one_by visit s acts i next w =
      on_visit (visit_all_by visit s (action_at acts i) (action_at acts i).successors w) (λ w'. success (marked s i w')) next

  -- S6.4, S6.7: the checks in order, n of them from number i on, one whose price is above the value skipped; if none passes, the value
  -- becomes the least price, and the visit fails
  unfoldable pub try_all_by : (ℕ → Search → Visit) → ℕ → List Action → ℕ → ℕ → Search → Visit
  try_all_by visit s acts zero i w = update budget s (least (price_by price p w) acts) failure w
  try_all_by visit s acts (suc n) i w =
      if_dear_by price p s (action_at acts i) (try_all_by visit s acts n (suc i))
      (try_one_by visit s acts i (try_all_by visit s acts n (suc i))) w

  -- S6.3, S6.11: an open ending is finished at its cost, and an open junction without checks at none
  unfoldable pub visit_open_by : (ℕ → Search → Visit) → ℕ → Node → Search → Visit
  visit_open_by visit s (terminal cost) w = finish budget s cost w
  visit_open_by visit s (decision form []) w = finish budget s no_plan w
  visit_open_by visit s (decision form (a ∷ more)) w = try_all_by visit s (a ∷ more) (length (a ∷ more)) 0 w

  -- a visit to s, which succeeds where s is settled (S6.2); the first number bounds how deep visits go, and the number of stages is enough
  unfoldable pub visit_by : ℕ → ℕ → Search → Visit
  visit_by zero s w = halt w
  visit_by (suc n) s w = on_test (solved_at w s) success (visit_open_by (visit_by n) s (node_at p s)) w

-- the passes begun, and how the last of them ended
pub record Passes : Type 0 where
  pub begun : ℕ
  pub ended : Visit

unfoldable pub on_pass : ℕ → Visit → (Search → Passes) → Passes
on_pass n (success w) next = record { begun = n; ended = success w }
on_pass n (failure w) next = next w
on_pass n (halt w) next = record { begun = n; ended = halt w }

-- S6.1: passes, visits to the start, after n of them, until one succeeds; the first number bounds how many there are: a pass that fails has
-- raised something (S6.10), so one more than the budget is enough
unfoldable pub passes_by : Pricing → Problem → ℕ → ℕ → ℕ → Search → Passes
passes_by price p budget zero n w = record { begun = n; ended = halt w }
passes_by price p budget (suc f) n w =
    on_pass (suc n) (visit_by price p budget (states p) p.start w) (passes_by price p budget f (suc n))

abbrev pub search_of : Visit → Search
search_of (success w) = w
search_of (failure w) = w
search_of (halt w) = w

-- the work of one call
unfoldable pub work_by : Pricing → Problem → List Cell → ℕ → Passes
work_by price p cells budget = passes_by price p budget (suc budget) 0 (record { cells = cells; raises = 0 })

-- the same by the price of S2.8: the procedure of every call
abbrev pub price_at : Problem → Search → Action → ℕ
price_at = price_by q

abbrev pub if_dear : Problem → ℕ → Action → (Search → Visit) → (Search → Visit) → Search → Visit
if_dear = if_dear_by q

abbrev pub visit_all : Problem → ℕ → (ℕ → Search → Visit) → ℕ → Action → List ℕ → Search → Visit
visit_all = visit_all_by q

abbrev pub try_one : Problem → ℕ → (ℕ → Search → Visit) → ℕ → List Action → ℕ → (Search → Visit) → Search →
    Visit
try_one = try_one_by q

abbrev pub try_all : Problem → ℕ → (ℕ → Search → Visit) → ℕ → List Action → ℕ → ℕ → Search → Visit
try_all = try_all_by q

abbrev pub visit_open : Problem → ℕ → (ℕ → Search → Visit) → ℕ → Node → Search → Visit
visit_open = visit_open_by q

abbrev pub visit : Problem → ℕ → ℕ → ℕ → Search → Visit
visit = visit_by q

abbrev pub passes : Problem → ℕ → ℕ → ℕ → Search → Passes
passes = passes_by q

abbrev pub work : Problem → List Cell → ℕ → Passes
work = work_by q
