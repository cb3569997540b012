-- What a visit keeps, gains and reports.
use Prim.Native.Nat.{ℕ, zero, suc, ◌+◌, ◌<◌, ◌≤◌}
use mathlib.Core.Path.{◌≡◌, refl, sym, ◌∙◌, subst}
use mathlib.Core.Bool.{Bool, true, false}
use mathlib.Core.Logic.{◌⊎◌, inl, inr, ◌≢◌}
use mathlib.Core.Option.{some}
use mathlib.Core.List.{List, [], ◌∷◌}
use native.Mathlib.Omega.{arith}
use borrow.Author.Tests.{ltb-true, ltb-false}
use lib.Dec.{ltb}
use lib.ListN.{length}
use Rattle.model.specs.Problem.{Action, Form, Node, terminal, decision, Problem, states, node_at, action_at, ◌∈◌, here, there}
use Rattle.model.specs.Limits.{no_plan}
use Rattle.model.specs.QValue.{least_from, least}
use Rattle.model.specs.Optimal.{bellman_cut_at, bellman_cut}
use Rattle.model.specs.Ldfs.{Search, Visit, success, failure, halt, value_at, solved_at, price_at, on_test, on_visit, raised}
use Rattle.model.specs.Ldfs.{marked, update, if_dear, visit_all, try_one, try_all, finish, visit_open, visit}
use Rattle.model.specs.Ldfs.{if_dear_by, visit_all_by, try_one_by, try_all_by, visit_open_by, visit_by}
use Rattle.theory.specs.Consistent.{end_of, WellFormed, Settles}
use Rattle.theory.proofs.Basics.{same_or_not, lt-or-le}
use Rattle.theory.proofs.CostLaws.{not_some}
use Rattle.theory.proofs.QValueLaws.{q-small, q-mono, least-below, least-small, least_above}
use Rattle.theory.proofs.Facts.{store_same}
use Rattle.theory.proofs.Leads.{Ready, Leads, stay, then, wider, Fits, raise-leads, raised-cell, Done, mark-leads}
use Rattle.theory.proofs.Leads.{value-of, solved-of}

-- What holds of a case function, from what holds in each case.
on-test : (P : Visit → Type 0) (b : Bool) (f g : Search → Visit) (w : Search) → (b ≡ true → P (f w)) →
    (b ≡ false → P (g w)) →
    P (on_test b f g w)
unfolding on_test
on-test P true f g w h k = h refl
on-test P false f g w h k = k refl

on-visit : (P Q : Visit → Type 0) (r : Visit) (f g : Search → Visit) → P r → ((w : Search) → P (success w) → Q (f w)) →
    ((w : Search) → P (failure w) → Q (g w)) → ((w : Search) → P (halt w) → Q (halt w)) → Q (on_visit r f g)
unfolding on_visit
on-visit P Q (success w) f g x h k l = h w x
on-visit P Q (failure w) f g x h k l = k w x
on-visit P Q (halt w) f g x h k l = l w x

on-dear : (P : Visit → Type 0) (p : Problem) (s : ℕ) (a : Action) (f g : Search → Visit) (w : Search) →
    (value_at w s < price_at p w a → P (f w)) → (price_at p w a ≤ value_at w s → P (g w)) → P (if_dear p s a f g w)
unfolding if_dear_by
on-dear P p s a f g w h k = on-test P (ltb (value_at w s) (price_at p w a)) f g w (λ e. h (ltb-true _ _ e)) (λ e. k (ltb-false _ _ e))

-- How a visit to s that began at w ends: a success leaves s solved; a failure has raised something since r raises; a halt has spent
-- the budget.
abbrev pub Visited : Problem → ℕ → ℕ → ℕ → Search → Visit → Type 0
Visited p budget s r w (success w') = Leads p budget s w w' × (solved_at w' s ≡ true)
Visited p budget s r w (failure w') = Leads p budget s w w' × (r < w'.raises)
Visited p budget s r w (halt w') = Leads p budget s w w' × (w'.raises ≡ budget) × (solved_at w' s ≡ false)

-- How the visits to the successors ts of an action a of s end.
abbrev pub AllVisited : Problem → ℕ → ℕ → Action → List ℕ → Search → Visit → Type 0
AllVisited p budget s a ts w (success w') =
    Leads p budget (suc s) w w' × ((t : ℕ) → t ∈ ts → solved_at w' t ≡ true) × (price_at p w' a ≤ value_at w' s)
AllVisited p budget s a ts w (failure w') =
    Leads p budget (suc s) w w' × (w'.raises ≡ w.raises → value_at w' s < price_at p w' a)
AllVisited p budget s a ts w (halt w') = Leads p budget (suc s) w w' × (w'.raises ≡ budget)

after_first : {p : Problem} {budget s : ℕ} (t : ℕ) (a : Action) (ts : List ℕ) {w w' : Search} → Leads p budget (suc s) w w' →
    solved_at w' t ≡ true → (r : Visit) → AllVisited p budget s a ts w' r → AllVisited p budget s a (t ∷ ts) w r
after_first t a ts lead solved (success w'') y = (then lead y.0, split, y.2)
  where
    stays : solved_at w'' t ≡ true
    stays = solved-of (y.0.keeps t solved) ∙ solved

    split : (u : ℕ) → u ∈ (t ∷ ts) → solved_at w'' u ≡ true
    split u here = stays
    split u (there m) = y.1 u m
after_first t a ts lead solved (failure w'') y = (then lead y.0, λ e. y.1 (omega (arith, e, lead.counts, y.0.counts)))
after_first t a ts lead solved (halt w'') y = (then lead y.0, y.1)

later : {p : Problem} {budget s : ℕ} {w w' : Search} (r : ℕ) → Leads p budget s w w' → (x : Visit) →
    Visited p budget s r w' x →
    Visited p budget s r w x
later r lead (success w'') y = (then lead y.0, y.1)
later r lead (failure w'') y = (then lead y.0, y.1)
later r lead (halt w'') y = (then lead y.0, y.1, y.2)

-- a decision that ends by itself has no action, and ends at none
barren : (form : Form) (acts : List Action) (x : ℕ) → end_of (decision form acts) ≡ some x → (length acts ≡ 0) × (x ≡ no_plan)
barren form [] x e = (refl, (cc))
barren form (a ∷ more) x e = not_some refl e

module _ (p : Problem) (wf : WellFormed p) (budget : ℕ) where
  -- a way of visiting the states above s that keeps the promise
  abbrev pub Visits : ℕ → (ℕ → Search → Visit) → Type 0
  Visits s v = (t : ℕ) (w : Search) → s < t → t < states p → Ready p budget w → Visited p budget t w.raises w (v t w)

  pub visit_all-does : (v : ℕ → Search → Visit) (s : ℕ) → Visits s v → (a : Action) (ts : List ℕ) →
      ((t : ℕ) → t ∈ ts → (s < t) × (t < states p)) →
      (w : Search) → Ready p budget w → price_at p w a ≤ value_at w s → AllVisited p budget s a ts w (visit_all p budget v s a ts w)
  unfolding visit_all_by
  visit_all-does v s does a [] above w ready le = (stay ready, λ t m. absurd (elim m [ ]), le)
  visit_all-does v s does a (t ∷ ts) above w ready le =
      let (lt, tn) = above t here in
      on-visit (Visited p budget t w.raises w) (AllVisited p budget s a (t ∷ ts) w) (v t w) _ _ (does t w lt tn ready)
      (λ w' x. on-dear (AllVisited p budget s a (t ∷ ts) w) p s a _ _ w'
      (λ dear. (wider lt x.0, λ _. dear))
      (λ le'.
      let others = visit_all-does v s does a ts (λ u m. above u (there m)) w' x.0.ready le' in
      after_first t a ts (wider lt x.0) x.1 (visit_all p budget v s a ts w') others))
      (λ w' x. (wider lt x.0, λ e. absurd (omega (arith, x.1))))
      (λ w' x. (wider lt x.0, x.1))

  -- the value of s becomes x, which is not below it: a raise, a halt, or nothing to do
  update-does : (s x r : ℕ) (next : Search → Visit) (w : Search) → Ready p budget w → s < states p → solved_at w s ≡ false →
      Fits p w.cells s x → x ≡ bellman_cut p s (value_at w) → value_at w s ≤ x →
      (value_at w s < x → Leads p budget s w (raised s x w) → Visited p budget s r w (next (raised s x w))) →
      (x ≡ value_at w s → Visited p budget s r w (next w)) → Visited p budget s r w (update budget s x next w)
  unfolding update
  update-does s x r next w ready state is_open fits is up on_raise on_same =
      on-test (Visited p budget s r w) (ltb (value_at w s) x) _ _ w
      (λ e. on-test (Visited p budget s r w) (ltb w.raises budget) _ _ w
      (λ room.
      let lt : value_at w s < x = ltb-true _ _ e in
      on_raise lt (raise-leads p budget s x w ready state is_open lt fits is (ltb-true _ _ room)))
      (λ full. (stay ready, omega (arith, ltb-false w.raises budget full, ready.within), is_open)))
      (λ e.
      let same : x ≡ value_at w s = omega (arith, ltb-false (value_at w s) x e) in
      subst (λ (u : Search). Visited p budget s r w (next u)) (sym (store_same s x w same)) (on_same same))

  module _ (v : ℕ → Search → Visit) (s : ℕ) (does : Visits s v) (state : s < states p) {form : Form}
      (acts : List Action) (node : node_at p s ≡ decision form acts) (has : 0 < length acts) where
    -- while nothing has been raised since r, each action before number i is too dear
    abbrev Missed : ℕ → ℕ → Search → Type 0
    Missed i r w = w.raises ≡ r → (j : ℕ) → j < i → value_at w s < price_at p w (action_at acts j)

    one_more : (i r : ℕ) (w : Search) → Missed i r w → (w.raises ≡ r → value_at w s < price_at p w (action_at acts i)) →
        Missed (suc i) r w
    one_more i r w missed h e j l = go (same_or_not j i)
      where
        go : (j ≡ i) ⊎ (j ≢ i) → value_at w s < price_at p w (action_at acts j)
        go (inl same) = rw same (h e)
        go (inr n) = missed e j (omega arith)

    still : (i r : ℕ) (w w' : Search) → r ≤ w.raises → Leads p budget (suc s) w w' → Missed i r w → Missed i r w'
    still i r w w' ge lead missed e j l = omega (
      arith,
      missed (omega (arith, lead.counts)) j l,
      value-of (lead.below s (omega arith)),
      q-mono p.kind (value_at w) (value_at w') (action_at acts j) (λ t m. lead.rises t),
    )

    -- no action is left: either something was raised on the way, or the least price is a raise
    dearer : (r : ℕ) (w : Search) → r ≤ w.raises → Missed (length acts) r w → least (price_at p w) acts ≤ value_at w s →
        r < w.raises
    dearer r w ge missed le = go (lt-or-le r w.raises)
      where
        go : (r < w.raises) ⊎ (w.raises ≤ r) → r < w.raises
        go (inl h) = h
        go (inr h) =
            let dear = missed (omega arith) in
            let room : suc (value_at w s) ≤ no_plan = omega (arith, dear 0 has, q-small p.kind (value_at w) (action_at acts 0)) in
            absurd (omega (arith, le, least_above (price_at p w) acts (suc (value_at w s)) room dear))

    -- the actions of s are acts, however they are come by
    its-acts : (P : List Action → Type 0) → P acts → {form' : Form} (acts' : List Action) → node_at p s ≡ decision form' acts' → P acts'
    its-acts P x acts' e = let same : acts ≡ acts' = cc in subst P same x

    no_end : {T : Type 0} (y : ℕ) → end_of (node_at p s) ≡ some y → T
    no_end y e = absurd (omega (arith, barren form acts y (rw node at e)))

    fits-least : (w : Search) → Fits p w.cells s (least (price_at p w) acts)
    fits-least w = record {
      small = least-small (price_at p w) acts;
      under_end = λ y e. no_end y e;
      under_q = λ acts' i e.
          its-acts (λ xs. i < length xs → least (price_at p w) acts ≤ price_at p w (action_at xs i))
          (least-below (price_at p w) acts i) acts' e;
    }

    -- the least price is what the Bellman equation has at s, as it is written
    least-is : (w : Search) → least (price_at p w) acts ≡ bellman_cut p s (value_at w)
    unfolding bellman_cut_at
    least-is w = rw node

    done : (w : Search) (i : ℕ) → Ready p budget w → i < length acts →
        ((t : ℕ) → t ∈ (action_at acts i).successors → solved_at w t ≡ true) →
        price_at p w (action_at acts i) ≤ value_at w s → Done p w s i
    done w i ready l solved le = record {
      at_end = λ y e. no_end y e;
      passed = λ acts' e _. its-acts (Settles p w.cells s i) settles acts' e;
    }
      where
        settles : Settles p w.cells s i acts
        settles = record {
          exists = l;
          priced = omega (arith, le, (ready.consistent.sound s).under_q acts i node l);
          below = solved;
        }

    -- while the actions are gone through: s open, and action number i next
    record Trying (i r : ℕ) (w : Search) : Type 0 where
      ready : Ready p budget w
      is_open : solved_at w s ≡ false
      begun : r ≤ w.raises
      missed : Missed i r w

    -- the visits to an action's successors leave s alone
    goes_on : (i r : ℕ) (w w' : Search) → Trying i r w → Leads p budget (suc s) w w' → Trying i r w'
    goes_on i r w w' h lead = record {
      ready = lead.ready;
      is_open = solved-of (lead.below s (omega arith)) ∙ h.is_open;
      begun = omega (arith, h.begun, lead.counts);
      missed = still i r w w' h.begun lead h.missed;
    }

    next-action : (i r : ℕ) (w : Search) → Trying i r w → (w.raises ≡ r → value_at w s < price_at p w (action_at acts i)) →
        Trying (suc i) r w
    next-action i r w h dear = record { ready = h.ready; is_open = h.is_open; begun = h.begun; missed = one_more i r w h.missed dear }

    try_one-does : (i r : ℕ) → i < length acts → (next : Search → Visit) (w : Search) → Trying i r w →
        price_at p w (action_at acts i) ≤ value_at w s →
        ((w' : Search) → Trying (suc i) r w' → Visited p budget s r w' (next w')) →
        Visited p budget s r w (try_one p budget v s acts i next w)
    unfolding try_one_by
    try_one-does i r l next w h le rest =
        let visits = visit_all-does v s does a ts (λ t m. wf.forward s i t acts node m) w h.ready le in
        on-visit (AllVisited p budget s a ts w) (Visited p budget s r w) (visit_all p budget v s a ts w) _ _ visits
        (λ w' x.
        let g = goes_on i r w w' h x.0 in
        let m = mark-leads p budget s i w' g.ready state g.is_open (done w' i g.ready l x.1 x.2) in
        (then (near x.0) m.0, m.1))
        (λ w' x.
        let left = next-action i r w' (goes_on i r w w' h x.0) (λ e. x.1 (omega (arith, e, h.begun, x.0.counts))) in
        later r (near x.0) (next w') (rest w' left))
        (λ w' x. (near x.0, x.1, (goes_on i r w w' h x.0).is_open))
      where
        a : Action
        a = action_at acts i

        ts : List ℕ
        ts = (action_at acts i).successors

        near : {w w' : Search} → Leads p budget (suc s) w w' → Leads p budget s w w'
        near lead = wider (omega arith) lead

    try_all-does : (n i : ℕ) → i + n ≡ length acts → (r : ℕ) (w : Search) → Trying i r w →
        Visited p budget s r w (try_all p budget v s acts n i w)
    unfolding try_all_by
    try_all-does zero i count r w h =
        update-does s (least (price_at p w) acts) r failure w h.ready state h.is_open (fits-least w) (least-is w)
        (least_above (price_at p w) acts (value_at w s) (h.ready.consistent.sound s).small
        (λ j l. (h.ready.consistent.sound s).under_q acts j node l))
        (λ up lead. (lead, omega (arith, h.begun)))
        (λ same. (stay h.ready, dearer r w h.begun (λ e j l. h.missed e j (omega arith)) (omega arith)))
    try_all-does (suc n) i count r w h =
        on-dear (Visited p budget s r w) p s (action_at acts i) _ _ w
        (λ dear. try_all-does n (suc i) (omega arith) r w (next-action i r w h (λ _. dear)))
        (λ le. try_one-does i r (omega arith) (try_all p budget v s acts n (suc i)) w h le (try_all-does n (suc i) (omega arith) r))

  -- and so is the value that a state ends at by itself
  end_is : (s x : ℕ) → end_of (node_at p s) ≡ some x → (v : ℕ → ℕ) → x ≡ bellman_cut p s v
  unfolding bellman_cut_at least_from
  end_is s x ends v = go (node_at p s) refl ends
    where
      go : (n : Node) → node_at p s ≡ n → end_of n ≡ some x → x ≡ bellman_cut_at p.kind v n
      go (terminal cost) e z = let same : cost ≡ x = cc in omega (arith, wf.capped s cost e)
      go (decision form []) e z = cc
      go (decision form (a ∷ more)) e z = not_some refl z

  -- a state that ends by itself, at x: its value becomes x, and it is marked
  finish-does : (s x : ℕ) (w : Search) → end_of (node_at p s) ≡ some x → x ≤ no_plan → s < states p → Ready p budget w →
      solved_at w s ≡ false → Visited p budget s w.raises w (finish budget s x w)
  unfolding finish
  finish-does s x w ends small state ready is_open =
      let raise = raised-cell p budget s x w ready state in
      let under = (ready.consistent.sound s).under_end x ends in
      update-does s x w.raises (λ w'. success (marked s 0 w')) w ready state is_open fits (end_is s x ends (value_at w)) under
      (λ up lead. done (raised s x w) lead (solved-of raise ∙ is_open) (value-of raise))
      (λ same. done w (stay ready) is_open (sym same))
    where
      no-action : {T : Type 0} {form : Form} (acts : List Action) → node_at p s ≡ decision form acts → 0 < length acts → T
      no-action {form} acts e has = absurd (omega (arith, barren form acts x (rw e at ends)))

      fits : Fits p w.cells s x
      fits = record {
        small = small;
        under_end = λ y e. let same : x ≡ y = cc in omega arith;
        under_q = λ acts i e l. no-action acts e (omega arith);
      }

      done : (w' : Search) → Leads p budget s w w' → solved_at w' s ≡ false → value_at w' s ≡ x →
          Visited p budget s w.raises w (success (marked s 0 w'))
      done w' lead is_open value =
          let is-done : Done p w' s 0 = record { at_end = λ y e. (refl, (cc)); passed = λ acts e has. no-action acts e has } in
          let m = mark-leads p budget s 0 w' lead.ready state is_open is-done in
          (then lead m.0, m.1)

  visit_open-does : (v : ℕ → Search → Visit) (s : ℕ) → Visits s v → s < states p → (n : Node) → node_at p s ≡ n →
      (w : Search) → Ready p budget w → solved_at w s ≡ false →
      Visited p budget s w.raises w (visit_open p budget v s n w)
  unfolding visit_open_by
  visit_open-does v s does state (terminal cost) e w ready is_open =
      finish-does s cost w (rw e) (omega (arith, wf.capped s cost e)) state ready is_open
  visit_open-does v s does state (decision form []) e w ready is_open = finish-does s no_plan w (rw e) (omega arith) state ready is_open
  visit_open-does v s does state (decision form (a ∷ more)) e w ready is_open =
      try_all-does v s does state (a ∷ more) e (omega arith) (length (a ∷ more)) 0 (omega arith) w.raises w (record {
        ready = ready;
        is_open = is_open;
        begun = omega arith;
        missed = λ _ j l. absurd (omega arith);
      })

  -- a visit to any state, with fuel enough
  pub visit-does : (k s : ℕ) (w : Search) → states p ≤ s + k → s < states p → Ready p budget w →
      Visited p budget s w.raises w (visit p budget k s w)
  unfolding visit_by
  visit-does zero s w fuel state ready = absurd (omega arith)
  visit-does (suc k) s w fuel state ready =
      on-test (Visited p budget s w.raises w) (solved_at w s) _ _ w
      (λ e. (stay ready, e))
      (λ e. visit_open-does (visit p budget k) s
      (λ t w' lt tn r. visit-does k t w' (omega arith) tn r) state (node_at p s) refl w ready e)

  -- an action of s that is tried and abandoned leaves s and the states before it alone
  pub abandoned-leads : (s i : ℕ) {form : Form} (acts : List Action) → node_at p s ≡ decision form acts → (w w' : Search) →
      Ready p budget w → price_at p w (action_at acts i) ≤ value_at w s →
      try_one p budget (visit p budget (states p)) s acts i failure w ≡ failure w' →
      Leads p budget (suc s) w w'
  unfolding try_one_by on_visit
  abandoned-leads s i acts node w w' ready le =
      go (visit_all p budget to s (action_at acts i) (action_at acts i).successors w)
      (visit_all-does to s does (action_at acts i) (action_at acts i).successors (λ t m. wf.forward s i t acts node m) w ready le)
    where
      to : ℕ → Search → Visit
      to = visit p budget (states p)

      does : Visits s to
      does t w'' lt tn r = visit-does (states p) t w'' (omega arith) tn r

      go : (r : Visit) → AllVisited p budget s (action_at acts i) (action_at acts i).successors w r →
          on_visit r (λ w''. success (marked s i w'')) failure ≡ failure w' →
          Leads p budget (suc s) w w'
      go (success w'') x e = let z : ◌≡◌ {A = ℕ} 0 1 = cc in absurd (omega arith)
      go (failure w'') x e = let same : w'' ≡ w' = cc in rw (← same) x.0
      go (halt w'') x e = let z : ◌≡◌ {A = ℕ} 0 1 = cc in absurd (omega arith)
