-- Where every decision has an action: values stay numbers, prices are what they were when there was no none, and so is the work of a call
-- (S8.15, S8.16).
use Prim.Native.Nat.{ℕ, zero, suc, ◌+◌, ◌<◌, ◌≤◌}
use mathlib.Core.Path.{◌≡◌, refl, sym, ap}
use mathlib.Core.Bool.{Bool, true, false}
use mathlib.Core.List.{List, [], ◌∷◌}
use native.Mathlib.Omega.{arith}
use borrow.Author.Tests.{ltb-false}
use lib.Dec.{ltb}
use lib.ListN.{length}
use Rattle.model.specs.Problem.{worst, Action, Form, Node, terminal, decision, Problem, Cell, states, node_at, action_at, value_of}
use Rattle.model.specs.Problem.{◌∈◌, here, there}
use Rattle.model.specs.Limits.{ceiling}
use Rattle.model.specs.QValue.{join}
use Rattle.model.specs.Policy.{Checked}
use Rattle.model.specs.Earlier.{joined_values, number_price}
use Rattle.model.specs.Ldfs.{Search, Visit, success, failure, halt, value_at, solved_at}
use Rattle.model.specs.Ldfs.{price_by, price_at, on_test, on_visit, marked, update}
use Rattle.model.specs.Ldfs.{if_dear_by, visit_all_by, try_one_by, try_all_by, visit_open_by, visit_by, on_pass, passes_by, work_by}
use Rattle.model.specs.Ldfs.{if_dear, visit_all, try_one, try_all, visit_open, visit, passes, work}
use Rattle.layout.proofs.Prices.{price-number}
use Rattle.theory.specs.Consistent.{WellFormed, Consistent}
use Rattle.theory.proofs.CostLaws.{amount-number}
use Rattle.theory.proofs.QValueLaws.{least-same}
use Rattle.theory.proofs.PolicyLaws.{never-none}
use Rattle.theory.proofs.Admissible.{below-optimal}
use Rattle.theory.proofs.Leads.{Ready}
use Rattle.theory.proofs.Visits.{Visited, AllVisited, Visits, visit_all-does, visit-does}

-- the largest of numbers that are not above the ceiling
largest-within : (v : ℕ → ℕ) → ((t : ℕ) → v t ≤ ceiling) → (ts : List ℕ) → joined_values worst v ts ≤ ceiling
unfolding joined_values join
largest-within v low [] = omega arith
largest-within v low (t ∷ ts) = omega (arith, low t, largest-within v low ts)

-- what follows a test, where the same follows it
test-same : (b : Bool) (f g f' g' : Search → Visit) (w : Search) → f' w ≡ f w → (b ≡ false → g' w ≡ g w) →
    on_test b f' g' w ≡ on_test b f g w
unfolding on_test
test-same true f g f' g' w h k = h
test-same false f g f' g' w h k = k refl

module _ (p : Problem) (wf : WellFormed p) (checked : Checked p) where
  -- S8.15: no value is none
  pub numbers : (cells : List Cell) → Consistent p cells → (t : ℕ) → value_of cells t ≤ ceiling
  numbers cells h t =
      let (x, is) = never-none p wf checked t in
      let below = rw is at (below-optimal p wf cells h t) in
      omega (arith, amount-number x)

  price-then : (w : Search) → Consistent p w.cells → (a : Action) → price_by number_price p w a ≡ price_at p w a
  price-then w h a =
      sym (price-number p.kind (value_at w) a (largest-within (value_at w) (numbers w.cells h) a.successors))

  module _ (budget : ℕ) where
    dear-same : (s : ℕ) (a : Action) (f g f' g' : Search → Visit) (w : Search) → Ready p budget w → f' w ≡ f w →
        (price_at p w a ≤ value_at w s → g' w ≡ g w) → if_dear_by number_price p s a f' g' w ≡ if_dear p s a f g w
    unfolding if_dear_by
    dear-same s a f g f' g' w ready h k =
        rw (price-then w ready.consistent a)
        (test-same (ltb (value_at w s) (price_at p w a)) f g f' g' w h (λ e. k (ltb-false (value_at w s) (price_at p w a) e)))

    -- two ways of visiting the states above s that give the same
    module _ (s : ℕ) (v v' : ℕ → Search → Visit) (does : Visits p wf budget s v)
        (same : (t : ℕ) (w : Search) → s < t → t < states p → Ready p budget w → v' t w ≡ v t w) where
      all_same : (a : Action) (ts : List ℕ) → ((t : ℕ) → t ∈ ts → (s < t) × (t < states p)) → (w : Search) →
          Ready p budget w →
          visit_all_by number_price p budget v' s a ts w ≡ visit_all p budget v s a ts w
      unfolding visit_all_by on_visit
      all_same a [] above w ready = refl
      all_same a (t ∷ ts) above w ready =
          let (lt, tn) = above t here in
          rw (same t w lt tn ready)
          (go (v t w) (does t w lt tn ready) (λ w' ready'. all_same a ts (λ u m. above u (there m)) w' ready'))
        where
          go : (r : Visit) → Visited p budget t w.raises w r →
              ((w' : Search) → Ready p budget w' →
              visit_all_by number_price p budget v' s a ts w' ≡ visit_all p budget v s a ts w') →
              on_visit r (if_dear_by number_price p s a failure (visit_all_by number_price p budget v' s a ts)) failure ≡
              on_visit r (if_dear p s a failure (visit_all p budget v s a ts)) failure
          go (success w') x ih = dear-same s a failure _ failure _ w' x.0.ready refl (λ le. ih w' x.0.ready)
          go (failure w') x ih = refl
          go (halt w') x ih = refl

      module _ {form : Form} (acts : List Action) (node : node_at p s ≡ decision form acts) where
        one_same : (i : ℕ) (next next' : Search → Visit) (w : Search) → Ready p budget w →
            price_at p w (action_at acts i) ≤ value_at w s → ((w' : Search) → Ready p budget w' → next' w' ≡ next w') →
            try_one_by number_price p budget v' s acts i next' w ≡ try_one p budget v s acts i next w
        unfolding try_one_by on_visit
        one_same i next next' w ready le h =
            rw (all_same a a.successors above w ready)
            (go (visit_all p budget v s a a.successors w) (visit_all-does p wf budget v s does a a.successors above w ready le))
          where
            a : Action
            a = action_at acts i

            above : (t : ℕ) → t ∈ a.successors → (s < t) × (t < states p)
            above t m = wf.forward s i t acts node m

            go : (r : Visit) → AllVisited p budget s a a.successors w r →
                on_visit r (λ w'. success (marked s i w')) next' ≡ on_visit r (λ w'. success (marked s i w')) next
            go (success w') x = refl
            go (failure w') x = h w' x.0.ready
            go (halt w') x = refl

        try-same : (n i : ℕ) (w : Search) → Ready p budget w →
            try_all_by number_price p budget v' s acts n i w ≡ try_all p budget v s acts n i w
        unfolding try_all_by
        try-same zero i w ready =
            ap (λ (x : ℕ). update budget s x failure w)
            (least-same (price_by number_price p w) (price_at p w) acts (λ j l. price-then w ready.consistent (action_at acts j)))
        try-same (suc n) i w ready =
            dear-same s (action_at acts i) _ _ _ _ w ready (try-same n (suc i) w ready)
            (λ le. one_same i _ _ w ready le (try-same n (suc i)))

      open-same : (node : Node) → node_at p s ≡ node → (w : Search) → Ready p budget w →
          visit_open_by number_price p budget v' s node w ≡ visit_open p budget v s node w
      unfolding visit_open_by
      open-same (terminal cost) e w ready = refl
      open-same (decision form []) e w ready = refl
      open-same (decision form (a ∷ more)) e w ready = try-same (a ∷ more) e (length (a ∷ more)) 0 w ready

    visit-same : (k s : ℕ) (w : Search) → states p ≤ s + k → s < states p → Ready p budget w →
        visit_by number_price p budget k s w ≡ visit p budget k s w
    unfolding visit_by
    visit-same zero s w fuel state ready = refl
    visit-same (suc k) s w fuel state ready =
        test-same (solved_at w s) success _ success _ w refl
        (λ _. open-same s (visit p budget k) (visit_by number_price p budget k)
        (λ t w' lt tn r. visit-does p wf budget k t w' (omega arith) tn r)
        (λ t w' lt tn r. visit-same k t w' (omega arith) tn r) (node_at p s) refl w ready)

    passes_same : (f n : ℕ) (w : Search) → Ready p budget w → passes_by number_price p budget f n w ≡ passes p budget f n w
    unfolding passes_by on_pass
    passes_same zero n w ready = refl
    passes_same (suc f) n w ready =
        rw (visit-same (states p) p.start w (omega arith) wf.starts ready)
        (go (visit p budget (states p) p.start w)
        (visit-does p wf budget (states p) p.start w (omega arith) wf.starts ready) (passes_same f (suc n)))
      where
        go : (r : Visit) → Visited p budget p.start w.raises w r →
            ((w' : Search) → Ready p budget w' →
            passes_by number_price p budget f (suc n) w' ≡ passes p budget f (suc n) w') →
            on_pass (suc n) r (passes_by number_price p budget f (suc n)) ≡ on_pass (suc n) r (passes p budget f (suc n))
        go (success w') x ih = refl
        go (failure w') x ih = ih w' x.0.ready
        go (halt w') x ih = refl

    -- the work of a call is what it was
    pub work-same : (cells : List Cell) → Consistent p cells → work_by number_price p cells budget ≡ work p cells budget
    unfolding work_by
    work-same cells h =
        passes_same (suc budget) 0 (record { cells = cells; raises = 0 }) (record { consistent = h; within = omega arith })
