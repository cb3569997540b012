-- What a piece of search keeps and gains, in one relation; that a raise and a mark are such pieces.
use Prim.Native.Nat.{ℕ, suc, ◌+◌, ◌<◌, ◌≤◌}
use mathlib.Core.Path.{◌≡◌, refl, sym, ap, ◌∙◌}
use mathlib.Core.Bool.{true, false}
use mathlib.Core.Logic.{◌⊎◌, inl, inr, ◌≢◌}
use mathlib.Core.Option.{some}
use mathlib.Core.List.{List, [], ◌++◌}
use native.Mathlib.Omega.{arith}
use lib.ListN.{length, set, length-set}
use lib.Seq.{get_or-set_same, get_or-set_other}
use Rattle.model.specs.Problem.{Action, Form, decision, Problem, Cell, cell, states, node_at, action_at, cell_of, value_of, solved}
use Rattle.model.specs.Limits.{no_plan}
use Rattle.model.specs.QValue.{q}
use Rattle.model.specs.Ldfs.{Search, cell_at, value_at, solved_at, raised, marked}
use Rattle.model.specs.Optimal.{bellman_cut, sum_below}
use Rattle.model.specs.History.{Change, History, nothing, raise, mark}
use Rattle.theory.specs.Consistent.{end_of, Settles, Sound, Consistent}
use Rattle.theory.proofs.Basics.{clash, same_or_not, sum_mono, sum-strict}
use Rattle.theory.proofs.QValueLaws.{q-mono, q-same}
use Rattle.theory.proofs.Histories.{history-then}

-- consistent cells, and no more raises than the budget
pub record Ready (p : Problem) (budget : ℕ) (w : Search) : Type 0 where
  pub consistent : Consistent p w.cells
  pub within : w.raises ≤ budget

-- from w to w' by search that leaves the states below s alone
pub record Leads (p : Problem) (budget s : ℕ) (w w' : Search) : Type 0 where
  pub ready : Ready p budget w'
  -- values never fall
  pub rises : (u : ℕ) → value_at w u ≤ value_at w' u
  -- solved cells never change
  pub keeps : (u : ℕ) → solved_at w u ≡ true → cell_at w' u ≡ cell_at w u
  -- only states from s up change
  pub below : (u : ℕ) → u < s → cell_at w' u ≡ cell_at w u
  pub counts : w.raises ≤ w'.raises
  -- each raise lifts one value by at least 1
  pub paid : w'.raises + sum_below (states p) (value_at w) ≤ w.raises + sum_below (states p) (value_at w')
  -- no raise, no value changed
  pub quiet : w'.raises ≡ w.raises → (u : ℕ) → value_at w' u ≡ value_at w u
  -- the changes of values on the way
  pub changes : List Change
  pub history : History p w changes w'

pub value-of : {c c' : Cell} → c ≡ c' → c.value ≡ c'.value
value-of e = ap (λ (c : Cell). c.value) e

pub solved-of : {c c' : Cell} → c ≡ c' → solved c ≡ solved c'
solved-of e = ap (λ (c : Cell). solved c) e

module _ {p : Problem} {budget : ℕ} where
  pub stay : {s : ℕ} {w : Search} → Ready p budget w → Leads p budget s w w
  stay r = record {
    ready = r;
    rises = λ u. omega arith;
    keeps = λ u h. refl;
    below = λ u h. refl;
    counts = omega arith;
    paid = omega arith;
    quiet = λ h u. refl;
    changes = [];
    history = nothing;
  }

  pub then : {s : ℕ} {w w' w'' : Search} → Leads p budget s w w' → Leads p budget s w' w'' → Leads p budget s w w''
  then {s} {w} {w'} {w''} a b = record {
    ready = b.ready;
    rises = λ u. omega (arith, a.rises u, b.rises u);
    keeps = λ u h. b.keeps u (solved-of (a.keeps u h) ∙ h) ∙ a.keeps u h;
    below = λ u h. b.below u h ∙ a.below u h;
    counts = omega (arith, a.counts, b.counts);
    paid = omega (arith, a.paid, b.paid);
    quiet = λ h u. b.quiet (omega (arith, h, a.counts, b.counts)) u ∙ a.quiet (omega (arith, h, a.counts, b.counts)) u;
    changes = a.changes ++ b.changes;
    history = history-then a.history b.history;
  }

  -- who leaves more states alone leaves fewer alone
  pub wider : {s t : ℕ} {w w' : Search} → s ≤ t → Leads p budget t w w' → Leads p budget s w w'
  wider le a = record {
    ready = a.ready;
    rises = a.rises;
    keeps = a.keeps;
    below = λ u h. a.below u (omega arith);
    counts = a.counts;
    paid = a.paid;
    quiet = a.quiet;
    changes = a.changes;
    history = a.history;
  }

-- an action that settles a state of the same value still does where solved cells stay
keep-settles : (p : Problem) (cells cells' : List Cell) (s i : ℕ) (acts : List Action) → value_of cells' s ≡ value_of cells s →
    ((t : ℕ) → solved (cell_of cells t) ≡ true → cell_of cells' t ≡ cell_of cells t) → Settles p cells s i acts →
    Settles p cells' s i acts
keep-settles p cells cells' s i acts same keeps h = record {
  exists = h.exists;
  priced =
      let a = action_at acts i in
      same ∙ h.priced ∙ q-same p.kind (value_of cells) (value_of cells') a (λ t m. value-of (sym (keeps t (h.below t m))));
  below = λ t m. solved-of (keeps t (h.below t m)) ∙ h.below t m;
}

-- a state whose own cell stays is still sound when values rise and solved cells stay
keep-sound : (p : Problem) (cells cells' : List Cell) (u : ℕ) → cell_of cells' u ≡ cell_of cells u →
    ((t : ℕ) → value_of cells t ≤ value_of cells' t) →
    ((t : ℕ) → solved (cell_of cells t) ≡ true → cell_of cells' t ≡ cell_of cells t) → Sound p cells u → Sound p cells' u
keep-sound p cells cells' u e rises keeps h = record {
  small = rw e h.small;
  mark = rw e h.mark;
  unchosen = rw e h.unchosen;
  endless = rw e h.endless;
  under_end = rw e h.under_end;
  under_q = λ acts i n l.
      let dearer = q-mono p.kind (value_of cells) (value_of cells') (action_at acts i) (λ t m. rises t) in
      omega (arith, value-of e, h.under_q acts i n l, dearer);
  at_end = rw e h.at_end;
  settles = λ acts n has sol.
      let before = h.settles acts n has (solved-of (sym e) ∙ sol) in
      rw (ap (λ (c : Cell). c.chosen) e) (keep-settles p cells cells' u (cell_of cells u).chosen acts (value-of e) keeps before);
}

-- the cell c put at an open state s, whose value does not fall, with r raises made by then
module _ (p : Problem) (budget s r : ℕ) (w : Search) (c : Cell) (ready : Ready p budget w) (state : s < states p)
    (is_open : solved_at w s ≡ false) (up : value_at w s ≤ c.value) where
  abbrev w' : Search
  w' = record { cells = set w.cells s c; raises = r }

  put_same : cell_at w' s ≡ c
  put_same = get_or-set_same w.cells s c (cell 0 0 0) (rw ready.consistent.size state)

  put_other : (u : ℕ) → u ≢ s → cell_at w' u ≡ cell_at w u
  put_other u n = get_or-set_other w.cells s u c (cell 0 0 0) n

  put-rises : (u : ℕ) → value_at w u ≤ value_at w' u
  put-rises u = go (same_or_not u s)
    where
      go : (u ≡ s) ⊎ (u ≢ s) → value_at w u ≤ value_at w' u
      go (inl e) = rw e (omega (arith, value-of put_same, up))
      go (inr n) = omega (arith, value-of (put_other u n))

  put_keeps : (u : ℕ) → solved_at w u ≡ true → cell_at w' u ≡ cell_at w u
  put_keeps u h = put_other u (λ e. clash h (rw e is_open))

  put-leads : Sound p w'.cells s → w.raises ≤ r → r ≤ budget →
      r + sum_below (states p) (value_at w) ≤ w.raises + sum_below (states p) (value_at w') →
      (r ≡ w.raises → (u : ℕ) → value_at w' u ≡ value_at w u) → {changes : List Change} → History p w changes w' →
      Leads p budget s w w'
  put-leads sound counts within paid quiet {changes} history = record {
    ready = record {
      consistent = record { size = simp length-set ready.consistent.size; sound = λ u. go u (same_or_not u s) };
      within = within;
    };
    rises = put-rises;
    keeps = put_keeps;
    below = λ u h. put_other u (omega arith);
    counts = counts;
    paid = paid;
    quiet = quiet;
    changes = changes;
    history = history;
  }
    where
      go : (u : ℕ) → (u ≡ s) ⊎ (u ≢ s) → Sound p w'.cells u
      go u (inl e) = rw e sound
      go u (inr n) = keep-sound p w.cells w'.cells u (put_other u n) put-rises put_keeps (ready.consistent.sound u)

-- a value that a state may rise to
pub record Fits (p : Problem) (cells : List Cell) (s x : ℕ) : Type 0 where
  pub small : x ≤ no_plan
  pub under_end : (y : ℕ) → end_of (node_at p s) ≡ some y → x ≤ y
  pub under_q : {form : Form} (acts : List Action) (i : ℕ) → node_at p s ≡ decision form acts → i < length acts →
      x ≤ q p.kind (value_of cells) (action_at acts i)

module _ (p : Problem) (budget s x : ℕ) (w : Search) (ready : Ready p budget w) (state : s < states p) where
  abbrev c : Cell
  c = cell x (cell_at w s).mark (cell_at w s).chosen

  pub raised-cell : cell_at (raised s x w) s ≡ c
  raised-cell = get_or-set_same w.cells s c (cell 0 0 0) (rw ready.consistent.size state)

  module _ (is_open : solved_at w s ≡ false) (up : value_at w s < x) (fits : Fits p w.cells s x) where
    rises : (u : ℕ) → value_at w u ≤ value_at (raised s x w) u
    rises = put-rises p budget s (suc w.raises) w c ready state is_open (omega arith)

    raise-sound : Sound p (raised s x w).cells s
    raise-sound = let h = ready.consistent.sound s in record {
      small = rw raised-cell fits.small;
      mark = rw raised-cell h.mark;
      unchosen = rw raised-cell h.unchosen;
      endless = rw raised-cell h.endless;
      under_end = rw raised-cell fits.under_end;
      under_q = λ acts i n l.
          let dearer = q-mono p.kind (value_at w) (value_at (raised s x w)) (action_at acts i) (λ t m. rises t) in
          omega (arith, value-of raised-cell, fits.under_q acts i n l, dearer);
      at_end = rw raised-cell (λ y n sol. clash sol is_open);
      settles = λ acts n has sol. clash sol (solved-of raised-cell ∙ is_open);
    }

    pub raise-leads : x ≡ bellman_cut p s (value_at w) → w.raises < budget → Leads p budget s w (raised s x w)
    raise-leads is room =
        put-leads p budget s (suc w.raises) w c ready state is_open (omega arith) raise-sound (omega arith) (omega arith)
        (let fewer = sum-strict (value_at w) (value_at (raised s x w)) rises (states p) s state (omega (arith, value-of raised-cell, up)) in
        omega (arith, fewer))
        (λ e. absurd (omega arith)) (raise s x state is_open is up nothing)

-- a state that may be marked, with action i chosen
pub record Done (p : Problem) (w : Search) (s i : ℕ) : Type 0 where
  pub at_end : (y : ℕ) → end_of (node_at p s) ≡ some y → (i ≡ 0) × (value_at w s ≡ y)
  pub passed : {form : Form} (acts : List Action) → node_at p s ≡ decision form acts → 0 < length acts → Settles p w.cells s i acts

module _ (p : Problem) (budget s i : ℕ) (w : Search) (ready : Ready p budget w) (state : s < states p) (is_open : solved_at w s ≡ false)
    (done : Done p w s i) where
  abbrev d : Cell
  d = cell (value_at w s) 1 i

  marked-cell : cell_at (marked s i w) s ≡ d
  marked-cell = get_or-set_same w.cells s d (cell 0 0 0) (rw ready.consistent.size state)

  marked-values : (t : ℕ) → value_at (marked s i w) t ≡ value_at w t
  marked-values t = go (same_or_not t s)
    where
      go : (t ≡ s) ⊎ (t ≢ s) → value_at (marked s i w) t ≡ value_at w t
      go (inl e) = rw e (value-of marked-cell)
      go (inr n) = value-of (get_or-set_other w.cells s t d (cell 0 0 0) n)

  mark-sound : Sound p (marked s i w).cells s
  mark-sound = let h = ready.consistent.sound s in record {
    small = rw marked-cell h.small;
    mark = rw marked-cell (omega arith);
    unchosen = rw marked-cell (λ sol. clash refl sol);
    endless = rw marked-cell (λ y n. (done.at_end y n).0);
    under_end = rw marked-cell h.under_end;
    under_q = λ acts j n l.
        let dearer = q-mono p.kind (value_at w) (value_at (marked s i w)) (action_at acts j) (λ t m. omega (arith, marked-values t)) in
        omega (arith, marked-values s, h.under_q acts j n l, dearer);
    at_end = rw marked-cell (λ y n sol. (done.at_end y n).1);
    settles = λ acts n has sol.
        let keeps = put_keeps p budget s w.raises w d ready state is_open (omega arith) in
        rw (ap (λ (c : Cell). c.chosen) marked-cell)
        (keep-settles p w.cells (marked s i w).cells s i acts (marked-values s) keeps (done.passed acts n has));
  }

  pub mark-leads : Leads p budget s w (marked s i w) × (solved_at (marked s i w) s ≡ true)
  mark-leads = (
    put-leads p budget s w.raises w d ready state is_open (omega arith) mark-sound (omega arith) ready.within
        (omega (arith, sum_mono (value_at w) (value_at (marked s i w)) (λ t. omega (arith, marked-values t)) (states p)))
        (λ _. marked-values) (mark s i state is_open nothing),
    solved-of marked-cell,
  )
