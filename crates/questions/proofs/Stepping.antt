-- A test of every state, of every action of a decision or of every successor of an action, one at a time.
use Prim.Native.Nat.{ℕ, suc, ◌+◌, ◌<◌, ◌≤◌}
use mathlib.Core.Path.{◌≡◌, refl, sym, ap, ◌∙◌}
use mathlib.Core.Bool.{Bool, true, false}
use mathlib.Core.List.{List, [], ◌∷◌}
use native.Mathlib.Omega.{arith}
use native.Mathlib.Numerals.{add-one}
use borrow.Author.Tests.{le-leb, lt-leb, le-ltb, ltb-true, ltb-false}
use lib.Dec.{leb, ltb, eqb}
use lib.ListN.{length, get_or, drop, length-drop}
use lib.Seq.{drop-cons}
use Rattle.model.proofs.TestLaws.{true-also, also-yes, also-no, every-false, true-every, every_first}
use Rattle.model.specs.Tests.{also, all, every}
use Rattle.model.specs.Problem.{Action, action, Form, decision, Problem, Cell, states, node_at, action_at}
use Rattle.model.specs.Problem.{cell_of, value_of, solved}
use Rattle.model.specs.Format.{terminal_tag, form_of, tag_of, actions_of, action_offset}
use Rattle.model.specs.Read.{problem_of}
use Rattle.model.specs.QValue.{q}
use Rattle.model.specs.Limits.{max_cost, no_plan}
use Rattle.model.specs.Questions.{costs_in_range, ascending, successors_in_order, value_under, all_solved, passed_by}
use Rattle.model.specs.Questions.{mark_earned}
use Rattle.layout.specs.Shape.{Inside}
use Rattle.layout.proofs.Shapes.{member}
use Rattle.sheet.specs.Sheet.{Below, Place, action_of, Walk, walked, Comes, Steps, terminal_cost}
use Rattle.sheet.proofs.Laws.{actions_at, is-terminal, is-decision}
use Rattle.questions.specs.Put.{count_in_range}
use Rattle.std.proofs.Common.{Option, Some, None}
use Rattle.std.proofs.iter.Yields.{nat_range_steps}
use Rattle.std.specs.Bool.{MatchBool}
use Rattle.std.specs.Fn.{Called}
use Rattle.std.specs.Iterator.{Yields, AlwaysYields, CallableAtEachTurn, ChecksAll, SkipsThenYields}
use Rattle.std.specs.Option.{MatchOption}
use Rattle.std.proofs.lemmas.Iterator.Adapters.{serves_from_places}
use Rattle.std.proofs.lemmas.List.{get_or_default}
use Rattle.std.specs.List.{range_with_len, AllWithin, HoldsAt}
use Rattle.std.proofs.lemmas.Iterator.{YieldsList, cases_from_all, YieldsList-from_range}
use Rattle.std.proofs.lemmas.List.FromFn.{get_or-range_with_len, length-range_with_len}
use Rattle.std.specs.declared.ops.Range.{Range}
use denote.Param.Members.{Mut}

-- every: one more that passes, all of them, one that does not
pub every_more : (k : ℕ) (f : ℕ → Bool) → every k f ≡ true → f k ≡ true → every (k + 1) f ≡ true
unfolding every
every_more k f h g = rw add-one (true-also _ _ h g)

-- What `all` over an iterator's items answers, which v takes to the list `items`, where its closure answers f of each: t is the test of the
-- item at a place.
pub every-from_items : {S A B F : Type 0} {steps : S → Option A → S → Type 0} {v : A → B} {g : Mut F (A × Unit {0}) Bool} {s u : S} {h : F}
    {r : Bool} {items : List B} (d : B) (f : B → Bool) (t : ℕ → Bool) → YieldsList steps v s items →
    ((i : ℕ) → i < length items → f (get_or items i d) ≡ t i) → ChecksAll steps g s h r u →
    ((x : A) (b : Bool) (q : F) → Called g h (x, tt) b q → (q ≡ h) × (b ≡ f (v x))) → r ≡ every (length items) t
every-from_items {B = B} {F} {u = u} {h} {r} {items} d f t road at ran calls =
    go r (
    cases_from_all u h r (λ x. f x ≡ true) (λ x. f x ≡ false) ran road (λ x q k. let w = calls x true q k in (w.0, sym w.1))
    (λ x q k. sym (calls x false q k).1)
    )
  where
    go : (b : Bool) → MatchBool b (AllWithin (λ x. f x ≡ true) items 0 (length items))
        ((k : ℕ) × (k < length items) × HoldsAt (λ x. f x ≡ false) items k) → b ≡ every (length items) t
    go true m = sym (true-every (length items) t (λ i lt. sym (at i lt) ∙ m i d (omega arith) lt))
    go false (k, lt, m) = sym (every-false (length items) t k lt (sym (at k lt) ∙ m d))

-- the same over the numbers below n
pub every-from_all : {F : Type 0} {g : Mut F (ℕ × Unit {0}) Bool} {s u : Range ℕ} {h : F} {r : Bool} (n : ℕ) (f : ℕ → Bool) →
    s ≡ record { start = 0; end = n } → ChecksAll nat_range_steps g s h r u →
    ((x : ℕ) (b : Bool) (q : F) → Called g h (x, tt) b q → (q ≡ h) × (b ≡ f x)) → r ≡ every n f
every-from_all {F} {g} {s} {u} {h} {r} n f e ran calls =
    let long : length (range_with_len 0 n) ≡ n = length-range_with_len 0 n in
    let number : (i : ℕ) → i < length (range_with_len 0 n) → f (get_or (range_with_len 0 n) i 0) ≡ f i =
    λ i lt. ap f (get_or-range_with_len 0 n i 0 (omega (arith, long)) ∙ (let z : 0 + i ≡ i = omega arith in z)) in
    every-from_items 0 f f (YieldsList-from_range 0 n n e (omega arith)) number ran calls ∙ ap (λ (k : ℕ). every k f) long

-- what a closure may suppose of each item of an iterator, which v takes to the list `items`
pub at-each-item : {S A B F : Type 0} {steps : S → Option A → S → Type 0} {v : A → B} {s : S} {items : List B} {R : F → A → F → Type 0}
    {Q : F → A → Type 0} {f : F} (d : B) → YieldsList steps v s items → ((x : A) (q : F) → R f x q → q ≡ f) →
    ((x : A) (k : ℕ) → k < length items → v x ≡ get_or items k d → Q f x) → CallableAtEachTurn steps R Q s f
at-each-item {v = v} {items = items} d road keeps at =
    serves_from_places road keeps (λ x k lt e. at x k lt (e ∙ get_or_default items k (v x) d lt))

-- a walk over the actions of decision i, from the first
walk-yields : (w : Walk) (acts : List Action) → drop w.index (walked w) ≡ acts → AlwaysYields Steps action_of w acts
walk-yields w [] e = λ a j c. absurd (omega (arith, c.more, ap length e, length-drop w.index (walked w)))
walk-yields w (x ∷ acts) e = (
  (λ j n. absurd (omega (arith, n.0, ap length e, length-drop w.index (walked w)))),
  λ a j c.
      let front = drop-cons (walked w) w.index (action 0 []) c.more in
      let here : action_of a ≡ x = (let is = c.is in cc) in
      let more : drop (suc w.index) (walked w) ≡ acts = cc in
      (here, walk-yields j acts (rw (c.then, add-one) more)),
)

pub walk-items : {w : Walk} {s : List ℕ} {i : ℕ} → w.bytes ≡ s → w.state ≡ i → w.index ≡ 0 →
    YieldsList Steps action_of w (actions_at (problem_of s) i)
walk-items {w} {s} {i} bytes state index =
    record { runs = walk-yields w (actions_at (problem_of s) i) (rw (index, bytes, state) refl) }

-- where a walk stands after some actions, and what `nth` answers
walk-after : (xs : List Place) (w t : Walk) → Yields Steps w xs t →
    t ≡ record { bytes = w.bytes; state = w.state; index = w.index + length xs }
walk-after [] w t y = let z : w.index + 0 ≡ w.index = omega arith in sym y ∙ rw z refl
walk-after (x ∷ xs) w t (next, come, rest) =
    let z : w.index + 1 + length xs ≡ w.index + suc (length xs) = omega arith in
    walk-after xs next t rest ∙ rw (come.then, z) refl

pub record Nth (s : List ℕ) (i n : ℕ) (r : Option Place) : Type 0 where
  pub action : Place
  pub some : r ≡ Some action
  pub is : action_of action ≡ action_at (actions_at (problem_of s) i) n
  pub bytes : action.bytes ≡ s
  pub at : action.at ≡ action_offset (problem_of s) i n

pub walk-nth : {w : Walk} (u : Walk) {s : List ℕ} {i n : ℕ} {r : Option Place} → w.bytes ≡ s → w.state ≡ i → w.index ≡ 0 →
    SkipsThenYields Steps w n r u → n < length (actions_at (problem_of s) i) → Nth s i n r
walk-nth {w} u {s} {i} {n} {r} bytes state index (xs, (t, y, step), last) lt = go r step last
  where
    stands : t ≡ record { bytes = s; state = i; index = length xs }
    stands = let z : 0 + length xs ≡ length xs = omega arith in walk-after xs w t y ∙ rw (bytes, state, index, z) refl

    go : (r : Option Place) → Steps t r u → MatchOption r (length xs ≤ n) (λ _. length xs ≡ n) → Nth s i n r
    go None end le = let all : length xs ≡ length (actions_at (problem_of s) i) = rw stands at end.0 in absurd (omega arith)
    go (Some a) come e = record {
      action = a;
      some = refl;
      is = rw e at (rw stands at come.is);
      bytes = rw stands at come.bytes;
      at = rw e at (rw stands at come.at);
    }

-- b is the test of all of n
module _ (n : ℕ) (f : ℕ → Bool) (b : Bool) (is : b ≡ every n f) where
  pub all-stepped : (k : ℕ) → every k f ≡ true → k ≤ n → n ≤ k → true ≡ b
  all-stepped k h le ge = let e : k ≡ n = omega arith in sym (is ∙ (rw e at h))

  pub stepped-out : (k : ℕ) → k < n → f k ≡ false → false ≡ b
  stepped-out k lt h = sym (is ∙ every-false n f k lt h)

-- the test of action k of decision s: questions 5, 6 and 7
abbrev pub cost_fits : ℕ → Bool
cost_fits c = all (leb 1 c ∷ leb c max_cost ∷ [])

abbrev pub cost_of_fits : Problem → ℕ → ℕ → Bool
cost_of_fits p s k = cost_fits (action_at (actions_at p s) k).cost

abbrev pub order_of : Problem → ℕ → ℕ → ℕ → ℕ → ℕ → Bool
order_of p d low n s k = ascending d low n (action_at (actions_at p s) k).successors

abbrev pub price_over : Problem → List Cell → ℕ → ℕ → Bool
price_over p cells s k = leb (value_of cells s) (q p.kind (value_of cells) (action_at (actions_at p s) k))

-- the tests of one state, at a decision
module _ (p : Problem) (s : ℕ) (tag : tag_of (node_at p s) ≡ terminal_tag → ⊥) where
  node : node_at p s ≡ decision (form_of (node_at p s)) (actions_at p s)
  node = is-decision (node_at p s) tag

  pub costs-are : costs_in_range (node_at p s) ≡ every (length (actions_at p s)) (cost_of_fits p s)
  unfolding costs_in_range actions_of
  costs-are = rw node

  pub order_is : (d low n : ℕ) → successors_in_order d low n (node_at p s) ≡ every (length (actions_at p s)) (order_of p d low n s)
  unfolding successors_in_order actions_of
  order_is d low n = rw node

  pub under-is : (cells : List Cell) → value_under p cells s (node_at p s) ≡ every (length (actions_at p s)) (price_over p cells s)
  unfolding value_under actions_of
  under-is cells = rw node

  -- question 8, where there is an action and where there is none
  module _ (cells : List Cell) where
    pub earned-is : 0 < length (actions_at p s) →
        mark_earned p cells s (node_at p s) ≡ passed_by p cells s (action_at (actions_at p s) (cell_of cells s).chosen)
    unfolding mark_earned
    earned-is some = ap (mark_earned p cells s) node ∙ go (form_of (node_at p s)) (actions_at p s) some
      where
        go : (form : Form) (acts : List Action) → 0 < length acts →
            mark_earned p cells s (decision form acts) ≡ passed_by p cells s (action_at acts (cell_of cells s).chosen)
        go form [] some = absurd (omega arith)
        go form (a ∷ more) some = refl

    pub earned-none : length (actions_at p s) ≤ 0 → mark_earned p cells s (node_at p s) ≡ eqb (value_of cells s) no_plan
    unfolding mark_earned
    earned-none none = ap (mark_earned p cells s) node ∙ go (form_of (node_at p s)) (actions_at p s) none
      where
        go : (form : Form) (acts : List Action) → length acts ≤ 0 → mark_earned p cells s (decision form acts) ≡
            eqb (value_of cells s) no_plan
        go form [] none = refl
        go form (a ∷ more) none = absurd (omega arith)

-- Successors in turn, each d or more above the one before it: `last` is the last so far, and another has to be `least` or more. Only the
-- last has to be compared with n: where the test goes on, the others are no larger.
pub record Rising (d low n : ℕ) (ts : List ℕ) (last least : ℕ) (left : List ℕ) : Type 0 where
  pub is : ascending d low n ts ≡ also (ltb last n) (λ _. ascending d least n left)
  pub under : last ≤ least

none-below : (a : Bool) (more : Unit {0} → Bool) → also (all (a ∷ false ∷ [])) more ≡ false
unfolding also all
none-below true more = refl
none-below false more = refl

pub rising-begins : (d low n : ℕ) (ts : List ℕ) → 1 ≤ length ts → Rising d low n ts 0 low ts
unfolding also ascending
rising-begins d low n [] some = absurd (omega arith)
rising-begins d low n (t ∷ ts) some = record { is = go (ltb 0 n) refl; under = omega arith }
  where
    go : (b : Bool) → ltb 0 n ≡ b → ascending d low n (t ∷ ts) ≡ also b (λ _. ascending d low n (t ∷ ts))
    go true e = refl
    go false e = let no : ltb t n ≡ false = le-ltb t n (omega (arith, ltb-false 0 n e)) in rw no (none-below (leb low t) _)

module _ {d low n last least t : ℕ} {ts left us : List ℕ} (h : Rising d low n ts last least left) (e : left ≡ t ∷ us) where
  pub rising-out : t < least → false ≡ ascending d low n ts
  unfolding ascending all also
  rising-out lt = sym (h.is ∙ rw (e, lt-leb least t lt) (also-no (ltb last n)))

  -- the next is t + d, or t is not below n
  pub rising-more : {next : ℕ} → least ≤ t → t ≤ next → (t < n → next ≡ t + d) → Rising d low n ts t next us
  unfolding ascending all also
  rising-more {next} le up sum = record { is = h.is ∙ rw e (go (ltb last n) (ltb t n) refl refl); under = up }
    where
      go : (a b : Bool) → ltb last n ≡ a → ltb t n ≡ b →
          also a (λ _. ascending d least n (t ∷ us)) ≡ also b (λ _. ascending d next n us)
      go true true p q = rw (le-leb least t le, q, sum (ltb-true t n q))
      go true false p q = rw (le-leb least t le, q)
      go false true p q = absurd (omega (arith, h.under, ltb-false last n p, ltb-true t n q))
      go false false p q = refl

pub rising-ends : {d low n last least : ℕ} {ts left : List ℕ} → Rising d low n ts last least left → left ≡ [] →
    ltb last n ≡ ascending d low n ts
unfolding ascending
rising-ends {n = n} {last = last} h e = sym (h.is ∙ rw e (also-yes (ltb last n)))

-- the test of all successors of an action, one by one
pub solved-all : (cells : List Cell) (ts : List ℕ) → every (length ts) (λ i. solved (cell_of cells (get_or ts i 0))) ≡ all_solved cells ts
unfolding all_solved every
solved-all cells [] = refl
solved-all cells (t ∷ ts) = every_first (length ts) (λ i. solved (cell_of cells (get_or (t ∷ ts) i 0))) ∙ rw (solved-all cells ts)

-- the successors of an action are states, where all are
pub inside-below : (p : Problem) (s : ℕ) → (tag_of (node_at p s) ≡ terminal_tag → ⊥) → Inside p → (k : ℕ) →
    Below (states p) (action_at (actions_at p s) k).successors
inside-below p s tag inside k j lj = inside s k _ (form_of (node_at p s)) (actions_at p s) (node p s tag) (member _ j lj)

-- A loop that counts the actions of decision i: w is the walk over them, of which n have come, with costs in range.
pub record Counting (s : List ℕ) (i : ℕ) (w : Walk) (n : ℕ) : Type 0 where
  pub walk : w ≡ record { bytes = s; state = i; index = n }
  pub fit : every n (cost_of_fits (problem_of s) i) ≡ true

pub counting-begins : {s : List ℕ} {i : ℕ} {w : Walk} → w.bytes ≡ s → w.state ≡ i → w.index ≡ 0 → Counting s i w 0
unfolding every
counting-begins bytes state index = record { walk = λ k. record { bytes = bytes k; state = state k; index = index k }; fit = refl }

module _ {s : List ℕ} {i n : ℕ} {w : Walk} (h : Counting s i w n) where
  module _ {a : Place} {w' : Walk} (come : Comes w a w') where
    pub counting-stands : n < length (actions_at (problem_of s) i)
    counting-stands = rw h.walk at come.more

    cost_is : (action_of a).cost ≡ (action_at (actions_at (problem_of s) i) n).cost
    cost_is = ap (λ (x : Action). x.cost) (rw h.walk at come.is)

    pub counting-more : {cost : ℕ} → cost ≡ (action_of a).cost → cost_fits cost ≡ true → Counting s i w' (n + 1)
    counting-more is fits = record {
      walk = come.then ∙ rw h.walk refl;
      fit = every_more n _ h.fit (rw (is ∙ cost_is) at fits);
    }

    pub counting-out : (tag_of (node_at (problem_of s) i) ≡ terminal_tag → ⊥) → {cost : ℕ} → cost ≡ (action_of a).cost →
        cost_fits cost ≡ false → None ≡ count_in_range (node_at (problem_of s) i)
    unfolding count_in_range
    counting-out tag is out =
        rw (sym (stepped-out _ _ _ (costs-are (problem_of s) i tag) n counting-stands (rw (is ∙ cost_is) at out)))

  pub counting-ends : (tag_of (node_at (problem_of s) i) ≡ terminal_tag → ⊥) → w.index ≡ length (walked w) →
      Some n ≡ count_in_range (node_at (problem_of s) i)
  unfolding count_in_range
  counting-ends tag end =
      let all : n ≡ length (actions_at (problem_of s) i) = (rw h.walk at end) in
      rw (sym (all-stepped _ _ _ (costs-are (problem_of s) i tag) n h.fit (omega arith) (omega arith))) (ap Some all)

-- questions 6 and 7 at a terminal
module _ (p : Problem) (s : ℕ) (tag : tag_of (node_at p s) ≡ terminal_tag) where
  pub order-terminal : (d low n : ℕ) → true ≡ successors_in_order d low n (node_at p s)
  unfolding successors_in_order
  order-terminal d low n = rw (is-terminal (node_at p s) tag)

  pub under-terminal : (cells : List Cell) → leb (value_of cells s) (terminal_cost (node_at p s)) ≡ value_under p cells s (node_at p s)
  unfolding value_under terminal_cost
  under-terminal cells = rw (is-terminal (node_at p s) tag)
