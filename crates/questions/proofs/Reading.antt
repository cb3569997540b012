-- Reading at an offset of the whole sheet, beside reading what is left of it: one law for each way through questions 4 and 10.
use Prim.Native.Nat.{ℕ, zero, suc, ◌+◌, ◌-◌, ◌%◌, ◌<◌, ◌≤◌}
use mathlib.Core.Path.{◌≡◌, refl, ap, ◌∙◌, sym}
use mathlib.Core.Bool.{Bool, true, false}
use mathlib.Core.List.{List, [], ◌∷◌, ◌++◌, append_assoc, append-nil}
use mathlib.Core.Logic.{◌⊎◌, inl, inr, ⊎_elim}
use native.Mathlib.Omega.{arith}
use native.Mathlib.Nat.{eq-or-lt_of_le}
use native.Mathlib.Numerals.{add-one}
use lib.Dec.{eqb, leb, ltb}
use borrow.Author.Tests.{eq-eqb, ne_eqb, eqb-true, eqb-false, leb-true, le-leb, lt-leb}
use lib.ListN.{length, get_or, set, drop, take, length-drop}
use lib.Seq.{take_all, drop-drop, get_or-drop, take-suc-set}
use Rattle.model.proofs.TestLaws.{also-true, also-yes, also-also, all_true, all_one}
use Rattle.model.specs.Tests.{fork, also, all}
use Rattle.model.specs.Format.{be16, plain_tag, counted_tag, decision_tag, decision_length}
use Rattle.model.specs.Format.{decision_size, actions_size, node_size, offsets_from}
use Rattle.model.specs.Format.{min_action_length, max_action_length}
use Rattle.model.specs.Read.{action_fits, actions_good, actions_read, actions_long}
use Rattle.model.specs.Read.{field_fits, form_read, header_fits, decision_fits, nodes_good, nodes_read}
use Rattle.model.specs.Limits.{max_actions}
use Rattle.model.specs.Questions.{question3, count_is, count_right}
use Rattle.layout.proofs.Bytes.{get_or-from, be16-from}
use Rattle.layout.proofs.Index.{actions-size}
use Rattle.questions.specs.Put.{field_length, header_size, counts_right}
use Rattle.std.specs.Bool.{then_some}
use Rattle.std.proofs.Common.{Some, None}

-- two tests, the second of which is known
all_first : (b : Bool) → all (b ∷ true ∷ []) ≡ b
unfolding all
all_first true = refl
all_first false = refl

all-false : (b : Bool) → all (b ∷ false ∷ []) ≡ false
unfolding all
all-false true = refl
all-false false = refl

-- where there is no room for a field, it does not fit
pub field_cut : (s : List ℕ) (o m : ℕ) → length s < o + 3 + m → false ≡ field_fits m (drop o s)
unfolding field_fits
field_cut s o m lt =
    let short = lt-leb (3 + m) (length s - o) (omega arith) in rw (length-drop o s, short) (sym (all-false (eqb (be16 (drop o s) 1) m)))

-- a test on a place and on what is left
eqb-left : (a n : ℕ) → a ≤ n → eqb a n ≡ eqb (n - a) 0
eqb-left a n le = by (eqb a n) refl
  where
    by : (b : Bool) → eqb a n ≡ b → eqb a n ≡ eqb (n - a) 0
    by true e = rw e (sym (eq-eqb (n - a) 0 (let w = eqb-true a n e in omega arith)))
    by false e = rw e (sym (ne_eqb (n - a) 0 (λ z. eqb-false a n e (omega arith))))

module _ (s : List ℕ) (o n : ℕ) (le : o ≤ length s) (is : n ≡ be16 s (o + 1)) where
  here : be16 (drop o s) 1 ≡ n
  here = sym (be16-from s o 1) ∙ sym is

  -- a field with a content of m bytes, where there is room for it
  pub field-here : (m : ℕ) → o + 3 + m ≤ length s → eqb n m ≡ field_fits m (drop o s)
  unfolding field_fits
  field-here m room =
      let enough = le-leb (3 + m) (length s - o) (omega arith) in rw (here, length-drop o s, enough) (sym (all_first (eqb n m)))

  -- the length of an action's field: none by the first test that fails
  pub action-low : n < 6 → None ≡ field_length (drop o s)
  unfolding field_length action_fits all
  action-low l = rw (here, lt-leb 6 n l)

  module _ (a : 6 ≤ n) where
    pub action-high : max_action_length < n → None ≡ field_length (drop o s)
    unfolding field_length action_fits all
    action-high l = rw (here, le-leb min_action_length n a, lt-leb n max_action_length l)

    module _ (b : n ≤ max_action_length) where
      pub action-odd : (n % 2 ≡ 0 → ⊥) → None ≡ field_length (drop o s)
      unfolding field_length action_fits all
      action-odd e = rw (here, le-leb min_action_length n a, le-leb n max_action_length b, ne_eqb (n % 2) 0 e)

      module _ (e : n % 2 ≡ 0) where
        pub action-cut : length s < o + 3 + n → None ≡ field_length (drop o s)
        unfolding field_length action_fits all
        action-cut l =
            let room = lt-leb (3 + n) (length s - o) (omega arith) in
            rw (here, le-leb min_action_length n a, le-leb n max_action_length b, e, length-drop o s, room)

        pub action-whole : o + 3 + n ≤ length s → Some (3 + n) ≡ field_length (drop o s)
        unfolding field_length action_fits all
        action-whole l =
            let room = le-leb (3 + n) (length s - o) (omega arith) in
            rw (here, le-leb min_action_length n a, le-leb n max_action_length b, e, length-drop o s, room)

-- where the bytes of its length are not there, it does not fit
fourth-false : (a b c : Bool) → all (a ∷ b ∷ c ∷ false ∷ []) ≡ false
unfolding all
fourth-false true true true = refl
fourth-false true true false = refl
fourth-false true false c = refl
fourth-false false b c = refl

pub action-short : (s : List ℕ) (o : ℕ) → length s < o + 3 → None ≡ field_length (drop o s)
unfolding field_length action_fits
action-short s o lt =
    let n = be16 (drop o s) 1 in
    let room = lt-leb (3 + n) (length s - o) (omega arith) in
    rw (length-drop o s, room, fourth-false (leb 6 n) (leb n max_action_length) (eqb (n % 2) 0))

-- the length of a decision's own field, by its tag, given whether a field of that length fits
module _ (s : List ℕ) (o : ℕ) where
  pub header-plain : get_or s o 0 ≡ plain_tag → (b : Bool) → b ≡ field_fits 6 (drop o s) →
      then_some b 9 ≡ header_size (drop o s)
  unfolding header_size header_fits form_read decision_tag decision_length also
  header-plain t true e = rw (← get_or-from s o, t, ← e)
  header-plain t false e = rw (← get_or-from s o, t, ← e)

  pub header-counted : get_or s o 0 ≡ counted_tag → (b : Bool) → b ≡ field_fits 7 (drop o s) →
      then_some b 10 ≡ header_size (drop o s)
  unfolding header_size header_fits form_read decision_tag decision_length also
  header-counted t true e = rw (← get_or-from s o, t, ← e)
  header-counted t false e = rw (← get_or-from s o, t, ← e)

  pub header-other : (get_or s o 0 ≡ plain_tag → ⊥) → (get_or s o 0 ≡ counted_tag → ⊥) → None ≡ header_size (drop o s)
  unfolding header_size header_fits form_read decision_tag also
  header-other p c = rw (← get_or-from s o, ne_eqb (get_or s o 0) 5 c, ne_eqb (get_or s o 0) 3 p)

-- what fits ends inside
pub field_room : (s : List ℕ) (o n : ℕ) → o ≤ length s → field_fits n (drop o s) ≡ true → o + (3 + n) ≤ length s
unfolding field_fits
field_room s o n le h = let w : 3 + n ≤ length (drop o s) = leb-true _ _ (all_true _ h).1.0 in omega (arith, length-drop o s)

pub header-room : (s : List ℕ) (o : ℕ) → o ≤ length s → header_fits (drop o s) ≡ true →
    o + decision_size (form_read (drop o s)) ≤ length s
unfolding header_fits
header-room s o le h = field_room s o _ le (also-true _ _ h).1

action-room : (s : List ℕ) (o l : ℕ) → o ≤ length s → l ≡ 3 + be16 (drop o s) 1 → action_fits (drop o s) ≡ true →
    o + l ≤ length s
unfolding action_fits
action-room s o l le is h =
    let w : 3 + be16 (drop o s) 1 ≤ length (drop o s) = leb-true _ _ (all_true _ h).1.1.1.0 in
    omega (arith, length-drop o s)

-- a decision's own field that fits: its tag and its number are inside, and question 10 of it, with n actions, by its tag
module _ (s : List ℕ) (o : ℕ) (le : o ≤ length s) (fits : header_fits (drop o s) ≡ true) where
  pub tag-inside : o < length s
  tag-inside = omega (arith, header-room s o le fits)

  module _ (t : get_or s o 0 ≡ counted_tag) where
    pub count-inside : o + 9 < length s
    unfolding form_read decision_length
    count-inside = let room = rw (← get_or-from s o, t) at (header-room s o le fits) in omega arith

    pub count-counted : (m n : ℕ) → m ≡ get_or s (o + 9) 0 → count_is (form_read (drop o s)) n ≡ eqb m n
    unfolding form_read count_is
    count-counted m n e = rw (← get_or-from s o, t, get_or-drop, ← e)

  pub count-plain : (get_or s o 0 ≡ counted_tag → ⊥) → (n : ℕ) → count_is (form_read (drop o s)) n ≡ true
  unfolding form_read count_is
  count-plain t n = rw (← get_or-from s o, ne_eqb (get_or s o 0) 5 t)

-- what the length of a field says: of an action's field, and of a decision's own
fitting : (b : Bool) (n l : ℕ) → Some l ≡ fork b (λ _. Some (3 + n)) (λ _. None) → (b ≡ true) × (l ≡ 3 + n)
fitting true n l is = (refl, cc)
fitting false n l is = cc

unfitting : (b : Bool) (n : ℕ) → None ≡ fork b (λ _. Some (3 + n)) (λ _. None) → b ≡ false
unfitting true n is = cc
unfitting false n is = refl

module _ (bs : List ℕ) where
  fits-field : (l : ℕ) → Some l ≡ field_length bs → (action_fits bs ≡ true) × (l ≡ 3 + be16 bs 1)
  unfolding field_length
  fits-field l = fitting (action_fits bs) (be16 bs 1) l

  field-unfit : None ≡ field_length bs → action_fits bs ≡ false
  unfolding field_length
  field-unfit = unfitting (action_fits bs) (be16 bs 1)

  pub header-fits : (l : ℕ) → Some l ≡ header_size bs → (header_fits bs ≡ true) × (l ≡ decision_size (form_read bs))
  unfolding header_size
  header-fits l = fitting (header_fits bs) (decision_length (form_read bs)) l

  pub header-unfit : None ≡ header_size bs → header_fits bs ≡ false
  unfolding header_size
  header-unfit = unfitting (header_fits bs) (decision_length (form_read bs))

-- one action more, none, a bad one, one too many
module _ (s : List ℕ) (o n : ℕ) where
  left_one : n < max_actions → max_actions - n ≡ suc (max_actions - (n + 1))
  left_one lt = omega arith

  module _ (lt : n < max_actions) (t : get_or s o 0 ≡ 4) (l : ℕ) (e : l ≡ 3 + be16 (drop o s) 1) where
    more-good : action_fits (drop o s) ≡ true →
        actions_good (max_actions - n) (drop o s) ≡ actions_good (max_actions - (n + 1)) (drop (o + l) s)
    unfolding actions_good also
    more-good f = rw (left_one lt, ← get_or-from s o, t, f, ← e, drop-drop l o s)

    more-long : o + actions_long (max_actions - n) (drop o s) ≡ o + l + actions_long (max_actions - (n + 1)) (drop (o + l) s)
    unfolding actions_long
    more-long = rw (left_one lt, ← get_or-from s o, t, ← e, drop-drop l o s) (omega arith)

    more-count : n + length (actions_read (max_actions - n) (drop o s)) ≡
        n + 1 + length (actions_read (max_actions - (n + 1)) (drop (o + l) s))
    unfolding actions_read
    more-count = rw (left_one lt, ← get_or-from s o, t, ← e, drop-drop l o s) (omega arith)

  pub bad-action : n < max_actions → get_or s o 0 ≡ 4 → action_fits (drop o s) ≡ false →
      actions_good (max_actions - n) (drop o s) ≡ false
  unfolding actions_good also
  bad-action lt t f = rw (left_one lt, ← get_or-from s o, t, f)

  pub many-actions : n ≡ max_actions → get_or s o 0 ≡ 4 → actions_good (max_actions - n) (drop o s) ≡ false
  unfolding actions_good
  many-actions e t = rw (e, ← get_or-from s o, t)

  pub end-good : (m : ℕ) → (get_or s o 0 ≡ 4 → ⊥) → actions_good m (drop o s) ≡ true
  unfolding actions_good
  end-good zero t = rw (← get_or-from s o, ne_eqb (get_or s o 0) 4 t)
  end-good (suc m) t = rw (← get_or-from s o, ne_eqb (get_or s o 0) 4 t)

  pub end-long : (m : ℕ) → (get_or s o 0 ≡ 4 → ⊥) → actions_long m (drop o s) ≡ 0
  unfolding actions_long
  end-long zero t = refl
  end-long (suc m) t = rw (← get_or-from s o, ne_eqb (get_or s o 0) 4 t)

  pub end-count : (m : ℕ) → (get_or s o 0 ≡ 4 → ⊥) → length (actions_read m (drop o s)) ≡ 0
  unfolding actions_read
  end-count zero t = refl
  end-count (suc m) t = rw (← get_or-from s o, ne_eqb (get_or s o 0) 4 t)

-- one state more
module _ (s : List ℕ) (states i o : ℕ) (lt : i < states) where
  left-state : states - i ≡ suc (states - (i + 1))
  left-state = omega arith

  module _ (two : get_or s o 0 ≡ 2) where
    pub terminal-good : field_fits 9 (drop o s) ≡ true →
        nodes_good (states - i) (drop o s) ≡ nodes_good (states - (i + 1)) (drop (o + 12) s)
    unfolding nodes_good also
    terminal-good f = rw (left-state, ← get_or-from s o, two, f, drop-drop 12 o s)

    pub terminal-bad : field_fits 9 (drop o s) ≡ false → nodes_good (states - i) (drop o s) ≡ false
    unfolding nodes_good also
    terminal-bad f = rw (left-state, ← get_or-from s o, two, f)

    pub terminal-place : offsets_from o (nodes_read (states - i) (drop o s)) ≡
        o ∷ offsets_from (o + 12) (nodes_read (states - (i + 1)) (drop (o + 12) s))
    unfolding nodes_read offsets_from node_size
    terminal-place = rw (left-state, ← get_or-from s o, two, drop-drop 12 o s)

    pub terminal-counts : counts_right (nodes_read (states - i) (drop o s)) ≡
        counts_right (nodes_read (states - (i + 1)) (drop (o + 12) s))
    unfolding nodes_read counts_right count_right also
    terminal-counts = rw (left-state, ← get_or-from s o, two, drop-drop 12 o s)

  module _ (two : get_or s o 0 ≡ 2 → ⊥) where
    pub header-bad : header_fits (drop o s) ≡ false → nodes_good (states - i) (drop o s) ≡ false
    unfolding nodes_good decision_fits also
    header-bad f = rw (left-state, ← get_or-from s o, ne_eqb (get_or s o 0) 2 two, f)

    -- the decision's own field takes `size` bytes, and its actions end at e
    module _ (size : ℕ) (is : size ≡ decision_size (form_read (drop o s))) where
      -- what is left behind the own field, and behind the actions
      past : drop (decision_size (form_read (drop o s))) (drop o s) ≡ drop (o + size) s
      past = rw (← is) (drop-drop size o s)

      left : drop (actions_long max_actions (drop (o + size) s)) (drop (o + size) s) ≡
          drop (o + size + actions_long max_actions (drop (o + size) s)) s
      left = drop-drop (actions_long max_actions (drop (o + size) s)) (o + size) s

      pub actions-bad : header_fits (drop o s) ≡ true → actions_good max_actions (drop (o + size) s) ≡ false →
          nodes_good (states - i) (drop o s) ≡ false
      unfolding nodes_good decision_fits also
      actions-bad f g = rw (left-state, ← get_or-from s o, ne_eqb (get_or s o 0) 2 two, f, past, g)

      module _ (g : actions_good max_actions (drop (o + size) s) ≡ true) (e : ℕ)
          (ee : o + size + actions_long max_actions (drop (o + size) s) ≡ e) where
        pub decision-good : header_fits (drop o s) ≡ true →
            nodes_good (states - i) (drop o s) ≡ nodes_good (states - (i + 1)) (drop e s)
        unfolding nodes_good decision_fits also
        decision-good f = rw (left-state, ← get_or-from s o, ne_eqb (get_or s o 0) 2 two, f, past, g, left, ee)

        pub decision-place : offsets_from o (nodes_read (states - i) (drop o s)) ≡
            o ∷ offsets_from e (nodes_read (states - (i + 1)) (drop e s))
        unfolding nodes_read offsets_from node_size
        decision-place =
            let long : o + (decision_size (form_read (drop o s)) + actions_size (actions_read max_actions (drop (o + size) s))) ≡ e =
            omega (arith, actions-size max_actions (drop (o + size) s) g) in
            rw (left-state, ← get_or-from s o, ne_eqb (get_or s o 0) 2 two, past, left, ee, long)

        pub decision-counts : (n : ℕ) → length (actions_read max_actions (drop (o + size) s)) ≡ n →
            counts_right (nodes_read (states - i) (drop o s)) ≡
            also (count_is (form_read (drop o s)) n) (λ _. counts_right (nodes_read (states - (i + 1)) (drop e s)))
        unfolding nodes_read counts_right count_right
        decision-counts n count = rw (left-state, ← get_or-from s o, ne_eqb (get_or s o 0) 2 two, past, left, ee, count)

-- the table, one entry more
entry_more : (t ps qs : List ℕ) (i o : ℕ) (rest : List ℕ) → i < length t → rest ≡ o ∷ qs → take i t ++ rest ≡ ps →
    take (i + 1) (set t i o) ++ qs ≡ ps
entry_more t ps qs i o rest lt f h = rw (add-one, take-suc-set t i o lt, append_assoc, ← f) h

pub all-entries : (s t ps : List ℕ) (states o : ℕ) → length t ≡ states →
    take states t ++ offsets_from o (nodes_read (states - states) (drop o s)) ≡ ps → t ≡ ps
unfolding nodes_read offsets_from
all-entries s t ps states o long h =
    let z : states - states ≡ 0 = omega arith in
    sym (take_all states t (omega arith)) ∙ sym (append-nil (take states t)) ∙ (rw z at h)

-- What the loop over states carries: state i stands at `at`, and reading on from there is reading from the first state; the first i of the
-- entries t are offsets; `right` says whether the numbers of actions written before it are right.
pub record ReadingStates (s : List ℕ) (states : ℕ) (t : List ℕ) (at i : ℕ) (right : Bool) : Type 0 where
  pub inside : at ≤ length s
  pub good : nodes_good states (drop 8 s) ≡ nodes_good (states - i) (drop at s)
  pub entries : take i t ++ offsets_from at (nodes_read (states - i) (drop at s)) ≡ offsets_from 8 (nodes_read states (drop 8 s))
  pub counts : counts_right (nodes_read states (drop 8 s)) ≡ also right (λ _. counts_right (nodes_read (states - i) (drop at s)))

-- What the loop over a decision's actions carries, the first of which stands at at₀: n of them are read, and the next stands at `at`.
pub record ReadingActions (s : List ℕ) (at₀ at n : ℕ) : Type 0 where
  pub upto : n ≤ max_actions
  pub inside : at ≤ length s
  pub good : actions_good max_actions (drop at₀ s) ≡ actions_good (max_actions - n) (drop at s)
  pub long : at₀ + actions_long max_actions (drop at₀ s) ≡ at + actions_long (max_actions - n) (drop at s)
  pub count : length (actions_read max_actions (drop at₀ s)) ≡ n + length (actions_read (max_actions - n) (drop at s))

pub reading_begins : (s t : List ℕ) (states : ℕ) → 8 ≤ length s → ReadingStates s states t 8 0 true
unfolding also
reading_begins s t states le =
    let z : states - 0 ≡ states = omega arith in record { inside = le; good = rw z; entries = rw z; counts = rw z }

-- all states are read
pub record Read (s : List ℕ) (states : ℕ) (t : List ℕ) (at : ℕ) (right : Bool) : Type 0 where
  pub in_place : eqb at (length s) ≡ nodes_good states (drop 8 s)
  pub counts : right ≡ counts_right (nodes_read states (drop 8 s))
  pub table : t ≡ offsets_from 8 (nodes_read states (drop 8 s))

pub reading-ends : {s t : List ℕ} {states at i : ℕ} {right : Bool} → ReadingStates s states t at i right → length t ≡ states →
    i ≡ states → Read s states t at right
unfolding nodes_good nodes_read counts_right
reading-ends {s} {t} {states} {at} {i} {right} h long e =
    let z : states - i ≡ 0 = omega arith in
    record {
      in_place = sym (h.good ∙ rw (z, length-drop at s) (sym (eqb-left at (length s) h.inside)));
      counts = sym (h.counts ∙ rw z (also-yes right));
      table = all-entries s t _ states at long (rw e at h.entries);
    }

-- A turn of the loop over states: there is a state i, and where it stands is stored as entry i.
pub record Turn (s : List ℕ) (states : ℕ) (t : List ℕ) (at i : ℕ) (right : Bool) : Type 0 where
  pub staging : ReadingStates s states t at i right
  pub below : i < states
  pub long : length t ≡ states

module _ {s t : List ℕ} {states at i : ℕ} {right : Bool} (g : Turn s states t at i right) where
  h : ReadingStates s states t at i right
  h = g.staging

  -- the state is read up to e, where its number of actions is right or not
  stored : (e : ℕ) (now : Bool) → e ≤ length s → nodes_good (states - i) (drop at s) ≡ nodes_good (states - (i + 1)) (drop e s) →
      offsets_from at (nodes_read (states - i) (drop at s)) ≡ at ∷ offsets_from e (nodes_read (states - (i + 1)) (drop e s)) →
      counts_right (nodes_read (states - i) (drop at s)) ≡ also now (λ _. counts_right (nodes_read (states - (i + 1)) (drop e s))) →
      ReadingStates s states (set t i at) e (i + 1) (also right (λ _. now))
  stored e now le good place counts = record {
    inside = le;
    good = h.good ∙ good;
    entries = entry_more t _ _ i at _ (omega (arith, g.below, g.long)) place h.entries;
    counts = h.counts ∙ ap (λ (b : Bool). also right (λ _. b)) counts ∙ also-also right now _;
  }

  module _ (two : get_or s at 0 ≡ 2) where
    pub terminal-read : field_fits 9 (drop at s) ≡ true → ReadingStates s states (set t i at) (at + 12) (i + 1) right
    unfolding also
    terminal-read f =
        let good = terminal-good s states i at g.below two f in
        let place = terminal-place s states i at g.below two in
        rw (also-yes right) at
        (stored (at + 12) true (field_room s at 9 h.inside f) good place (terminal-counts s states i at g.below two))

    pub terminal-out : field_fits 9 (drop at s) ≡ false → nodes_good states (drop 8 s) ≡ false
    terminal-out f = h.good ∙ terminal-bad s states i at g.below two f

  module _ (two : get_or s at 0 ≡ 2 → ⊥) where
    pub header-out : None ≡ header_size (drop at s) → nodes_good states (drop 8 s) ≡ false
    header-out none = h.good ∙ header-bad s states i at g.below two (header-unfit (drop at s) none)

    module _ (size : ℕ) (is : Some size ≡ header_size (drop at s)) where
      fits : header_fits (drop at s) ≡ true
      fits = (header-fits (drop at s) size is).0

      own : size ≡ decision_size (form_read (drop at s))
      own = (header-fits (drop at s) size is).1

      pub reading-actions-begins : ReadingActions s (at + size) (at + size) 0
      reading-actions-begins = record {
        upto = omega arith;
        inside = rw own (header-room s at h.inside fits);
        good = refl;
        long = refl;
        count = omega arith;
      }

      module _ {o n : ℕ} (k : ReadingActions s (at + size) o n) where
        -- no action stands at o: the state is read
        pub decision-read : (get_or s o 0 ≡ 4 → ⊥) →
            ReadingStates s states (set t i at) o (i + 1) (also right (λ _. count_is (form_read (drop at s)) n))
        decision-read none =
            let good = k.good ∙ end-good s o n (max_actions - n) none in
            let end : at + size + actions_long max_actions (drop (at + size) s) ≡ o =
            omega (arith, k.long, end-long s o n (max_actions - n) none) in
            let count : length (actions_read max_actions (drop (at + size) s)) ≡ n =
            omega (arith, k.count, end-count s o n (max_actions - n) none) in
            stored o (count_is (form_read (drop at s)) n) k.inside (decision-good s states i at g.below two size own good o end fits)
            (decision-place s states i at g.below two size own good o end)
            (decision-counts s states i at g.below two size own good o end n count)

        -- one stands at o that is the 17th, or does not fit
        pub action-out : get_or s o 0 ≡ 4 → (n ≡ max_actions) ⊎ (None ≡ field_length (drop o s)) →
            nodes_good states (drop 8 s) ≡ false
        action-out four why = h.good ∙ actions-bad s states i at g.below two size own fits (k.good ∙ bad why)
          where
            bad : (n ≡ max_actions) ⊎ (None ≡ field_length (drop o s)) → actions_good (max_actions - n) (drop o s) ≡ false
            bad (inl many) = many-actions s o n many four
            bad (inr none) =
                let unfit = field-unfit (drop o s) none in
                ⊎_elim (λ many. many-actions s o n many four) (λ l. bad-action s o n l four unfit) (eq-or-lt_of_le k.upto)

-- a turn of the loop over actions
pub action-read : {s : List ℕ} {at₀ o n l : ℕ} → ReadingActions s at₀ o n → n < max_actions → get_or s o 0 ≡ 4 →
    Some l ≡ field_length (drop o s) → ReadingActions s at₀ (o + l) (n + 1)
action-read {s} {o = o} {n} {l} k lt four e =
    let (fits, is) = fits-field (drop o s) l e in
    record {
      upto = omega arith;
      inside = action-room s o l k.inside is fits;
      good = k.good ∙ more-good s o n lt four l is fits;
      long = k.long ∙ more-long s o n lt four l is;
      count = k.count ∙ more-count s o n lt four l is;
    }

-- question 3 by the tag that is wanted and a limit of states, by the first test that fails
module _ (wanted limit : ℕ) (s : List ℕ) (le : 8 ≤ length s) where
  pub head-tag : (get_or s 0 0 ≡ wanted → ⊥) → false ≡ question3 wanted limit s
  unfolding question3 all
  head-tag h = rw (ne_eqb (get_or s 0 0) wanted h)

  module _ (same : get_or s 0 0 ≡ wanted) where
    pub head-length : (be16 s 1 ≡ 5 → ⊥) → false ≡ question3 wanted limit s
    unfolding question3 all
    head-length h = rw (eq-eqb (get_or s 0 0) wanted same, ne_eqb (be16 s 1) 5 h)

    module _ (five : be16 s 1 ≡ 5) where
      pub head-kind : 1 < get_or s 3 0 → false ≡ question3 wanted limit s
      unfolding question3 all
      head-kind h = rw (eq-eqb (get_or s 0 0) wanted same, eq-eqb (be16 s 1) 5 five, le-leb 8 (length s) le, lt-leb (get_or s 3 0) 1 h)

      module _ (kind : get_or s 3 0 ≤ 1) where
        pub head-none : be16 s 4 < 1 → false ≡ question3 wanted limit s
        unfolding question3 all
        head-none h =
            let kinds = le-leb (get_or s 3 0) 1 kind in
            rw (eq-eqb (get_or s 0 0) wanted same, eq-eqb (be16 s 1) 5 five, le-leb 8 (length s) le, kinds, lt-leb 1 (be16 s 4) h)

        module _ (some : 1 ≤ be16 s 4) where
          pub head-many : limit < be16 s 4 → false ≡ question3 wanted limit s
          unfolding question3 all
          head-many h =
              let kinds = le-leb (get_or s 3 0) 1 kind in
              let least = le-leb 1 (be16 s 4) some in
              let most = lt-leb (be16 s 4) limit h in
              rw (eq-eqb (get_or s 0 0) wanted same, eq-eqb (be16 s 1) 5 five, le-leb 8 (length s) le, kinds, least, most)

          pub head-start : be16 s 4 ≤ limit → ltb (be16 s 6) (be16 s 4) ≡ question3 wanted limit s
          unfolding question3 all
          head-start h =
              let kinds = le-leb (get_or s 3 0) 1 kind in
              let least = le-leb 1 (be16 s 4) some in
              let most = le-leb (be16 s 4) limit h in
              rw (eq-eqb (get_or s 0 0) wanted same, eq-eqb (be16 s 1) 5 five, le-leb 8 (length s) le, kinds, least, most) (sym (all_one _))
