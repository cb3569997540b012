-- The inverse with any list that has every stage number: what it makes of an accepted sheet gets a yes to every question that the
-- rearranger puts.
use Prim.Native.Nat.{ℕ, ◌+◌, ◌<◌, ◌≤◌}
use mathlib.Core.Path.{◌≡◌, refl, sym, ap, ◌∙◌, subst}
use mathlib.Core.Bool.{true}
use mathlib.Core.Logic.{◌⊎◌, inl, inr, ◌≢◌}
use mathlib.Core.List.{List, [], ◌∷◌, map}
use native.Mathlib.Omega.{arith}
use lib.ListN.{length, take, length-map}
use lib.Seq.{length-take-le}
use borrow.Author.Tests.{eq-eqb, leb-true}
use Rattle.model.proofs.QuestionLaws.{AllYes, none-no, all_yes}
use Rattle.model.proofs.TestLaws.{all_true, every_true, true-every, never}
use Rattle.model.specs.Format.{Bytes, draft_tag}
use Rattle.model.specs.Limits.{max_states}
use Rattle.model.specs.Problem.{action, Node, terminal, decision, Problem, states, node_at, action_at, ◌∈◌, here, there}
use Rattle.model.specs.Questions.{apart, ascending, successors_in_order, question2, question3, question5, question6, question6_draft}
use Rattle.model.specs.Questions.{question10, question}
use Rattle.model.specs.Read.{problem_of, cells_of}
use Rattle.layout.proofs.Back.{problem-back, cells-back, head-good, body-good}
use Rattle.layout.proofs.Shapes.{ascending-in, six-inside, draft-inside, six-draft}
use Rattle.layout.proofs.Written.{written-bytes}
use Rattle.layout.specs.Shape.{Shaped, Inside}
use Rattle.theory.proofs.Basics.{same_or_not}
use Rattle.theory.proofs.LimitLaws.{SheetYes, yes-accepted}
use Rattle.theory.proofs.Sheets.{Stands, accepted-stands}
use Rattle.theory.specs.Asked.{Asked}
use Rattle.order.proofs.Back.{flip}
use Rattle.order.proofs.Circles.{pointing-state, full-iff}
use Rattle.order.proofs.Consistent.{actions-same, ten-moved, five-moved, seven-moved, eight-moved}
use Rattle.order.proofs.Costs.{get_d_map, moved-states, moved-node}
use Rattle.order.proofs.Counting.{one-other, among-times, lists-perm}
use Rattle.order.proofs.Identity.{six-ahead}
use Rattle.order.proofs.Ordered.{moved-ascending, apart-few, times-sorted}
use Rattle.order.proofs.Plans.{costs-moved}
use Rattle.order.proofs.Pointing.{in-among, leads-in, points}
use Rattle.order.proofs.Shaped.{shaped-moved}
use Rattle.order.proofs.Sizes.{moved-size}
use Rattle.order.specs.Asking.{question1_lent, question11, question11_back, draft_questions, back_questions, restore_refusal}
use Rattle.order.specs.Asking.{restored_bytes}
use Rattle.order.specs.Claims.{Perm, Chain, step, onward, Restores}
use Rattle.order.specs.Moved.{sorted, at, moved_action, moved_node, moved, restored, restored_cells}
use Rattle.order.specs.Order.{points_to, order, inverse, lists}
use Rattle.order.specs.Times.{times}

-- who is pointed to after a renumbering was pointed to before
times-back : (t : ℕ) (f : ℕ → ℕ) (ts : List ℕ) → 1 ≤ times t (map f ts) → (u : ℕ) × (u ∈ ts) × (t ≡ f u)
unfolding times
times-back t f [] m = absurd (omega arith)
times-back t f (v ∷ vs) m = go (same_or_not t (f v)) (times-back t f vs)
  where
    go : (t ≡ f v) ⊎ (t ≢ f v) → (1 ≤ times t (map f vs) → (u : ℕ) × (u ∈ vs) × (t ≡ f u)) → (u : ℕ) × (u ∈ (v ∷ vs)) × (t ≡ f u)
    go (inl e) ih = (v, here, e)
    go (inr n) ih = let r = ih (omega (arith, one-other t (f v) n)) in (r.0, there r.1, r.2)

pub among-sorted : (t : ℕ) (f : ℕ → ℕ) (ts : List ℕ) → t ∈ sorted (map f ts) → (u : ℕ) × (u ∈ ts) × (t ≡ f u)
among-sorted t f ts h = times-back t f ts (omega (arith, among-times t (sorted (map f ts)) (in-among h), times-sorted t (map f ts)))

module _ (tag : ℕ) (p : Problem) (six : question6 p ≡ true) (from to : List ℕ) (h : Perm (states p) from to) where
  six-at : (s : ℕ) → s < states p → successors_in_order (apart p.kind) (s + 1) (states p) (node_at p s) ≡ true
  unfolding question6
  six-at s l = every_true (states p) _ six s l

  inside : Inside p
  inside = six-inside p six

  different : (t u : ℕ) → t < states p → u < states p → at to t ≡ at to u → t ≡ u
  different t u lt lu e = sym (h.from_to t lt) ∙ ap (at from) e ∙ h.from_to u lu

  node-in-order : (s : ℕ) → s < states p → (n : Node) → node_at p s ≡ n → successors_in_order (apart p.kind) 0 (states p) (moved_node to n)
      ≡ true
  unfolding moved_node successors_in_order
  node-in-order s l (terminal cost) e = refl
  node-in-order s l (decision form acts) e =
      actions-same (λ a. ascending (apart p.kind) 0 (states p) a.successors) (λ a. true) (moved_action to) acts
      (λ i li. let ord = every_true (length acts) _ (rw e at (six-at s l)) i li in
      moved-ascending (apart p.kind) (states p) (apart-few p.kind) (at to) different (s + 1) 0 (action_at acts i).successors ord
      (λ t m. (omega arith, h.to_below t (ascending-in (apart p.kind) (s + 1) (states p) _ ord t m).1)))
      ∙ true-every (length acts) _ (λ i li. refl)

  kind-kept : (moved tag from to p).kind ≡ p.kind
  unfolding moved
  kind-kept = refl

  -- question 6 as the rearranger puts it
  pub six-restored : question6_draft (moved tag from to p) ≡ true
  unfolding question6_draft
  six-restored = rw (kind-kept, moved-states tag p from to h)
      (true-every (states p) _
      (λ s l. rw (moved-node tag p from to h s l) (node-in-order (at from s) (h.from_below s l) (node_at p (at from s)) refl)))

  -- findings lead upwards by the numbers of p
  upward : (s t : ℕ) → s < states p → (n : Node) → node_at p (at from s) ≡ n → points_to (moved_node to n) t ≡ true → at from s < at from t
  unfolding points_to moved_node
  upward s t l (terminal cost) e g = never g
  upward s t l (decision form acts) e g =
      let r = leads-in (map (moved_action to) acts) t g in
      let li : r.0 < length acts = omega (arith, r.1, length-map acts (moved_action to)) in
      let m : t ∈ sorted (map (at to) (action_at acts r.0).successors) = rw
      (get_d_map (moved_action to) acts r.0 (action 0 []) (action 0 []) li) at r.2 in
      let w = among-sorted t (at to) (action_at acts r.0).successors m in
      let lu : w.0 < states p = inside (at from s) r.0 w.0 form acts e w.1 in
      let back : at from t ≡ w.0 = ap (at from) w.2 ∙ h.from_to w.0 lu in
      omega (arith, six-ahead p six (at from s) w.0 (points p (at from s) r.0 w.0 acts e li w.1))

  chain-upward : {s t : ℕ} → Chain (moved tag from to p) s t → at from s < at from t
  chain-upward (step {s} {t} e) =
      let l : s < states p = rw (moved-states tag p from to h) at (pointing-state (moved tag from to p) s t e) in
      upward s t l (node_at p (at from s)) refl (rw (moved-node tag p from to h s l) at e)
  chain-upward (onward {s} {u} {t} e c) =
      let l : s < states p = rw (moved-states tag p from to h) at (pointing-state (moved tag from to p) s u e) in
      omega (arith, upward s u l (node_at p (at from s)) refl (rw (moved-node tag p from to h s l) at e), chain-upward c)

  -- and so in no circle: question 11
  pub full-restored : length (order (moved tag from to p)) ≡ states (moved tag from to p)
  full-restored = (full-iff (moved tag from to p)).1 (λ c. omega (arith, chain-upward c.2))

-- Bytes: what the inverse makes of a sheet by a list that it does not refuse.
module _ (s list : List ℕ) (byte : Bytes s) (entries output : ℕ) (un : restore_refusal s entries list output ≡ 0) where
  abbrev p : Problem
  p = problem_of s

  abbrev old : List ℕ
  old = take (states p) list

  -- the sheet is accepted, and the list has every stage number
  back-yes : (question1_lent s entries output (length list) ≡ true) × SheetYes max_states s × (lists (states p) old ≡ true)
  unfolding restore_refusal question11_back
  back-yes =
      let (one, (two, (three, (four, (ten, (five, (six, (eleven, (seven, (eight, _)))))))))) =
      none-no (question 1 (λ _. question1_lent s entries output (length list)) ∷ back_questions s list) refl un in (
        one,
        record { two = two; three = three; four = four; ten = ten; five = five; six = six; seven = seven; eight = eight },
        eleven,
      )

  stands : Stands s p (cells_of s)
  stands = accepted-stands s byte (yes-accepted max_states s back-yes.1)

  asked : Asked p (cells_of s)
  asked = stands.asked

  renumbering : Perm (states p) (inverse old) old
  unfolding question1_lent
  renumbering =
      let (_, (_, (many, _))) = all_true _ back-yes.0 in
      let long = length-take-le (states p) list (omega (arith, leb-true max_states (length list) many, asked.shaped.most)) in
      flip (lists-perm (states p) old long back-yes.2)

  draft-shaped : Shaped (restored old p) (restored_cells old (cells_of s))
  draft-shaped = shaped-moved draft_tag p (inverse old) old renumbering (cells_of s) asked.shaped

  draft-six : question6_draft (restored old p) ≡ true
  draft-six = six-restored draft_tag p asked.six (inverse old) old renumbering

  within : Inside p
  within = six-inside p asked.six

  tagged : (restored old p).head ≡ draft_tag
  unfolding moved
  tagged = refl

  five : question5 (restored old p) (restored_cells old (cells_of s)) ≡ true
  five = five-moved draft_tag p (inverse old) old renumbering (cells_of s) ∙ asked.five

  ten : question10 (restored old p) ≡ true
  ten = ten-moved draft_tag p (inverse old) old renumbering ∙ asked.ten

  draft-length : length (restored_bytes s list) ≡ length s
  draft-length =
      moved-size draft_tag p (inverse old) old renumbering (cells_of s) (restored_cells old (cells_of s)) ∙ ap length (sym stands.is)

  -- the draft's questions, each by its number
  draft-yes : AllYes (draft_questions (restored_bytes s list))
  unfolding question2 question11
  draft-yes =
      let cells = restored_cells old (cells_of s) in
      let problem = problem-back (restored old p) cells draft-shaped in
      let here = cells-back (restored old p) cells draft-shaped in
      let full = full-restored draft_tag p asked.six (inverse old) old renumbering in (
        rw draft-length stands.size,
        (
          subst (λ (t : ℕ). question3 t max_states (restored_bytes s list) ≡ true) tagged (head-good (restored old p) cells draft-shaped),
          (
            body-good (restored old p) cells draft-shaped,
            (
              rw problem ten,
              (
                rw (problem, here) five,
                (
                  rw problem draft-six,
                  (
                    rw problem (eq-eqb _ _ full),
                    (
                      rw (problem, here) (seven-moved draft_tag p (inverse old) old renumbering (cells_of s) within ∙ asked.seven),
                      (rw (problem, here) (eight-moved draft_tag p (inverse old) old renumbering (cells_of s) within ∙ asked.eight), tt),
                    ),
                  ),
                ),
              ),
            ),
          ),
        ),
      )

  pub any-restores : Restores s list
  any-restores = record {
    bytes =
        written-bytes (restored old p) (restored_cells old (cells_of s)) (rw tagged (omega arith)) draft-shaped ten five
        (draft-inside (restored old p) draft-six);
    long = draft-length;
    yes = all_yes (draft_questions (restored_bytes s list)) draft-yes;
    same_costs = rw (problem-back (restored old p) (restored_cells old (cells_of s)) draft-shaped)
        (costs-moved draft_tag p (inverse old) old renumbering (six-draft p asked.six) asked.shaped.start within
        (draft-inside (restored old p) draft-six));
  }
