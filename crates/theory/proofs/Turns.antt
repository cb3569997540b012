-- One law for each way through a turn of the procedure's loops: what the code's proofs cite. Fuel drops out.
use Prim.Native.Nat.{ℕ, zero, suc, ◌+◌, ◌-◌, ◌<◌, ◌≤◌}
use mathlib.Core.Path.{◌≡◌, refl, ap, ◌∙◌, fun_ext}
use mathlib.Core.Bool.{true, false}
use mathlib.Core.Option.{some}
use mathlib.Core.List.{List, [], ◌∷◌}
use native.Mathlib.Omega.{arith}
use borrow.Author.Tests.{lt-ltb, le-ltb}
use lib.ListN.{length, get_or, drop}
use lib.Seq.{drop-cons, drop-length}
use Rattle.model.specs.Problem.{Action, Form, Node, terminal, decision, Problem, states, node_at, action_at, ◌∈◌, here, there}
use Rattle.model.specs.QValue.{least}
use Rattle.model.specs.Ldfs.{Search, Visit, success, failure, halt, value_at, solved_at, price_at, on_test, on_visit, stored}
use Rattle.model.specs.Ldfs.{raised, marked, update, visit_all, try_one, try_all, finish, visit_open, visit, Passes, on_pass}
use Rattle.model.specs.Ldfs.{passes, if_dear_by, visit_all_by, try_one_by, try_all_by, visit_open_by, visit_by, passes_by}
use Rattle.theory.specs.Consistent.{end_of, WellFormed}
use Rattle.theory.proofs.Facts.{open-end}

-- An update: the same value or a smaller one, a raise, a halt.
module _ (budget s x : ℕ) (next : Search → Visit) (w : Search) where
  pub update-stores : x ≤ value_at w s → update budget s x next w ≡ next (stored s x w)
  unfolding update on_test
  update-stores h = rw (le-ltb (value_at w s) x h)

  pub update-raises : value_at w s < x → w.raises < budget → update budget s x next w ≡ next (raised s x w)
  unfolding update on_test
  update-raises h g = rw (lt-ltb (value_at w s) x h, lt-ltb w.raises budget g)

  pub update-halts : value_at w s < x → budget ≤ w.raises → update budget s x next w ≡ halt w
  unfolding update on_test
  update-halts h g = rw (lt-ltb (value_at w s) x h, le-ltb w.raises budget g)

module _ (p : Problem) (budget : ℕ) (v : ℕ → Search → Visit) (s : ℕ) where
  -- the successors from number j on
  abbrev pub successors_from : Action → ℕ → Search → Visit
  successors_from a j = visit_all p budget v s a (drop j a.successors)

  module _ (a : Action) (j : ℕ) (w w' : Search) (lt : j < length a.successors) where
    turn : successors_from a j w ≡ visit_all p budget v s a (get_or a.successors j 0 ∷ drop (suc j) a.successors) w
    turn = ap (λ (ts : List ℕ). visit_all p budget v s a ts w) (drop-cons a.successors j 0 lt)

    pub successor-halts : v (get_or a.successors j 0) w ≡ halt w' → successors_from a j w ≡ halt w'
    unfolding visit_all_by on_visit
    successor-halts e = turn ∙ (rw e)

    pub successor-fails : v (get_or a.successors j 0) w ≡ failure w' → successors_from a j w ≡ failure w'
    unfolding visit_all_by on_visit
    successor-fails e = turn ∙ (rw e)

    pub successor-dear : v (get_or a.successors j 0) w ≡ success w' → value_at w' s < price_at p w' a →
        successors_from a j w ≡ failure w'
    unfolding visit_all_by on_visit if_dear_by on_test
    successor-dear e h = turn ∙ (rw (e, lt-ltb (value_at w' s) (price_at p w' a) h))

    pub successor-passes : v (get_or a.successors j 0) w ≡ success w' → price_at p w' a ≤ value_at w' s →
        successors_from a j w ≡ successors_from a (suc j) w'
    unfolding visit_all_by on_visit if_dear_by on_test
    successor-passes e h = turn ∙ (rw (e, le-ltb (value_at w' s) (price_at p w' a) h))

  pub successors-end : (a : Action) (w : Search) → successors_from a (length a.successors) w ≡ success w
  unfolding visit_all_by
  successors-end a w = rw (drop-length a.successors)

  -- the actions from number i on
  abbrev pub actions_from : List Action → ℕ → Search → Visit
  actions_from acts i = try_all p budget v s acts (length acts - i) i

  module _ (acts : List Action) (i : ℕ) (w w' : Search) (lt : i < length acts) where
    left : length acts - i ≡ suc (length acts - suc i)
    left = omega arith

    pub action-skipped : value_at w s < price_at p w (action_at acts i) → actions_from acts i w ≡ actions_from acts (suc i) w
    unfolding try_all_by if_dear_by on_test
    action-skipped h = rw (left, lt-ltb (value_at w s) (price_at p w (action_at acts i)) h)

    -- an action tried, and what is next where it fails
    tried_then : (next : Search → Visit) →
        try_one p budget v s acts i next w ≡ on_visit (try_one p budget v s acts i failure w) success next
    unfolding try_one_by on_visit
    tried_then next = go (visit_all p budget v s (action_at acts i) (action_at acts i).successors w)
      where
        go : (r : Visit) →
            on_visit r (λ w''. success (marked s i w'')) next ≡ on_visit (on_visit r (λ w''. success (marked s i w'')) failure) success
            next
        go (success w'') = refl
        go (failure w'') = refl
        go (halt w'') = refl

    module _ (le : price_at p w (action_at acts i) ≤ value_at w s) where
      action-tried : actions_from acts i w ≡ on_visit (try_one p budget v s acts i failure w) success (actions_from acts (suc i))
      unfolding try_all_by if_dear_by on_test
      action-tried = rw (left, le-ltb (value_at w s) (price_at p w (action_at acts i)) le) (tried_then (actions_from acts (suc i)))

      pub action-passes : try_one p budget v s acts i failure w ≡ success w' → actions_from acts i w ≡ success w'
      unfolding on_visit
      action-passes e = action-tried ∙ (rw e)

      pub action-fails : try_one p budget v s acts i failure w ≡ failure w' → actions_from acts i w ≡ actions_from acts (suc i) w'
      unfolding on_visit
      action-fails e = action-tried ∙ (rw e)

      pub action-halts : try_one p budget v s acts i failure w ≡ halt w' → actions_from acts i w ≡ halt w'
      unfolding on_visit
      action-halts e = action-tried ∙ (rw e)

  -- one action tried, by how the visits to its successors end
  module _ (acts : List Action) (i : ℕ) (w w' : Search) where
    pub try-passes : successors_from (action_at acts i) 0 w ≡ success w' →
        try_one p budget v s acts i failure w ≡ success (marked s i w')
    unfolding try_one_by on_visit
    try-passes e = rw e

    pub try-fails : successors_from (action_at acts i) 0 w ≡ failure w' → try_one p budget v s acts i failure w ≡ failure w'
    unfolding try_one_by on_visit
    try-fails e = rw e

    pub try-halts : successors_from (action_at acts i) 0 w ≡ halt w' → try_one p budget v s acts i failure w ≡ halt w'
    unfolding try_one_by on_visit
    try-halts e = rw e

  pub actions-end : (acts : List Action) (w : Search) →
      actions_from acts (length acts) w ≡ update budget s (least (price_at p w) acts) failure w
  unfolding try_all_by
  actions-end acts w = let z : length acts - length acts ≡ 0 = omega arith in rw z

-- A visit does not depend on its fuel, where that is enough.
module _ (p : Problem) (budget : ℕ) where
  visit_all-same : (v v' : ℕ → Search → Visit) (s : ℕ) (a : Action) (ts : List ℕ) →
      ((t : ℕ) (w : Search) → t ∈ ts → v t w ≡ v' t w) →
      (w : Search) → visit_all p budget v s a ts w ≡ visit_all p budget v' s a ts w
  unfolding visit_all_by
  visit_all-same v v' s a [] h w = refl
  visit_all-same v v' s a (t ∷ ts) h w = rw (h t w here, fun_ext (visit_all-same v v' s a ts (λ u w' m. h u w' (there m))))

  module _ (v v' : ℕ → Search → Visit) (s : ℕ) (acts : List Action)
      (h : (i t : ℕ) (w : Search) → t ∈ (action_at acts i).successors → v t w ≡ v' t w) where
    try_one-same : (i : ℕ) (next : Search → Visit) (w : Search) →
        try_one p budget v s acts i next w ≡ try_one p budget v' s acts i next w
    unfolding try_one_by
    try_one-same i next w = rw (visit_all-same v v' s (action_at acts i) (action_at acts i).successors (h i) w)

    try_all-same : (n i : ℕ) (w : Search) → try_all p budget v s acts n i w ≡ try_all p budget v' s acts n i w
    unfolding try_all_by
    try_all-same zero i w = refl
    try_all-same (suc n) i w = rw (fun_ext (try_all-same n (suc i)), fun_ext (try_one-same i (try_all p budget v' s acts n (suc i))))

  module _ (wf : WellFormed p) where
    visit_open-same : (v v' : ℕ → Search → Visit) (s : ℕ) →
        ((t : ℕ) (w : Search) → s < t → t < states p → v t w ≡ v' t w) →
        (n : Node) → node_at p s ≡ n → (w : Search) → visit_open p budget v s n w ≡ visit_open p budget v' s n w
    unfolding visit_open_by
    visit_open-same v v' s h (terminal cost) e w = refl
    visit_open-same v v' s h (decision form []) e w = refl
    visit_open-same v v' s h (decision form (a ∷ more)) e w =
        let acts : List Action = a ∷ more in
        try_all-same v v' s acts (λ i t w' m. let f = wf.forward s i t acts e m in h t w' f.0 f.1) (length acts) 0 w

    pub any_fuel : (k m s : ℕ) → states p ≤ s + k → states p ≤ s + m → s < states p →
        (w : Search) → visit p budget k s w ≡ visit p budget m s w
    unfolding visit_by
    any_fuel zero m s h g lt w = absurd (omega arith)
    any_fuel (suc k) zero s h g lt w = absurd (omega arith)
    any_fuel (suc k) (suc m) s h g lt w =
        rw (fun_ext (visit_open-same (visit p budget k) (visit p budget m) s
        (λ t w' l tn. any_fuel k m t (omega arith) (omega arith) tn w') (node_at p s) refl))

    -- a visit with fuel enough, which hands itself to its loops
    abbrev pub visit_to : ℕ → Search → Visit
    visit_to = visit p budget (states p)

    module _ (s : ℕ) (w : Search) (state : s < states p) where
      unfolded : visit_to s w ≡ on_test (solved_at w s) success (visit_open p budget visit_to s (node_at p s)) w
      unfolding visit_by
      unfolded = any_fuel (states p) (suc (states p)) s (omega arith) (omega arith) state w

      pub visit-solved : solved_at w s ≡ true → visit_to s w ≡ success w
      unfolding on_test
      visit-solved e = unfolded ∙ (rw e)

      -- a state that ends by itself, and a decision that has actions
      pub visit-end : (x : ℕ) → solved_at w s ≡ false → end_of (node_at p s) ≡ some x →
          visit_to s w ≡ finish budget s x w
      unfolding on_test
      visit-end x e ends = unfolded ∙ (rw e (open-end p budget visit_to s x w (node_at p s) ends))

      pub visit-decision : {form : Form} (acts : List Action) → 0 < length acts → solved_at w s ≡ false → node_at p s ≡ decision form acts →
          visit_to s w ≡ actions_from p budget visit_to s acts 0 w
      unfolding visit_open_by on_test
      visit-decision [] has e n = absurd (omega arith)
      visit-decision (a ∷ more) has e n =
          unfolded ∙ (let z : suc (length more) - 0 ≡ suc (length more) = omega arith in rw (e, n, z))

-- Passes, when n have been begun; n is at most the raises made, and so at most the budget.
abbrev pub passes_from : Problem → ℕ → ℕ → Search → Passes
passes_from p budget n w = passes p budget (suc budget - n) n w

module _ (p : Problem) (budget n : ℕ) (w w' : Search) (le : n ≤ budget) where
  more : suc budget - n ≡ suc (suc budget - suc n)
  more = omega arith

  pub pass-succeeds : visit p budget (states p) p.start w ≡ success w' →
      passes_from p budget n w ≡ record { begun = suc n; ended = success w' }
  unfolding passes_by on_pass
  pass-succeeds e = rw (more, e)

  pub pass-halts : visit p budget (states p) p.start w ≡ halt w' →
      passes_from p budget n w ≡ record { begun = suc n; ended = halt w' }
  unfolding passes_by on_pass
  pass-halts e = rw (more, e)

  pub pass-fails : visit p budget (states p) p.start w ≡ failure w' → passes_from p budget n w ≡ passes_from p budget (suc n) w'
  unfolding passes_by on_pass
  pass-fails e = rw (more, e)
