-- Counting findings.
use Prim.Native.Nat.{ℕ, suc, ◌+◌, ◌*◌, ◌<◌, ◌≤◌}
use mathlib.Core.Path.{◌≡◌, refl, ap, ◌∙◌}
use mathlib.Core.Bool.{Bool, true}
use mathlib.Core.Logic.{◌⊎◌, inl, inr, ◌≢◌}
use mathlib.Core.List.{List, [], ◌∷◌, ◌++◌}
use native.Mathlib.Omega.{arith}
use native.Mathlib.Numerals.{add-one}
use lib.Dec.{eqb}
use lib.ListN.{length, get_or, set, take, length-append, length-set, get_or-eq_default}
use lib.Seq.{take_all, get_or-set_same, get_or-set_other}
use Rattle.model.specs.Limits.{max_states}
use Rattle.model.specs.Format.{actions_of, form_of, tag_of, terminal_tag}
use Rattle.model.specs.Problem.{Action, Problem, states, node_at, action_at}
use Rattle.model.specs.Read.{problem_of}
use Rattle.layout.proofs.Shapes.{member}
use Rattle.layout.specs.Shape.{Inside}
use Rattle.theory.proofs.Basics.{lt-or-le, same_or_not}
use Rattle.order.proofs.Counting.{one-most}
use Rattle.rearrange.proofs.Walking.{ends}
use Rattle.rearrange.proofs.Waits.{counted-length, counted-at, counted-append, outset}
use Rattle.order.specs.Times.{times}
use Rattle.rearrange.specs.Waits.{found, found_at, found_below, waiting, counted}
use Rattle.sheet.proofs.Laws.{actions_at, is-terminal, is-decision, below-first, below-rest}
use Rattle.sheet.specs.Sheet.{IsDecision, Below}
use Rattle.rearrange.proofs.Releasing.{found-more}

times-most : (u : ℕ) (ts : List ℕ) → times u ts ≤ length ts
unfolding times
times-most u [] = omega arith
times-most u (t ∷ ts) = omega (arith, times-most u ts, one-most (eqb u t))

-- no entry grows by more than what is counted
grown : (ws ts : List ℕ) (u : ℕ) → get_or (counted ws ts) u 0 ≤ get_or ws u 0 + length ts
grown ws ts u = go (lt-or-le u (length ws))
  where
    go : (u < length ws) ⊎ (length ws ≤ u) → get_or (counted ws ts) u 0 ≤ get_or ws u 0 + length ts
    go (inl l) = omega (arith, counted-at ws ts u l, times-most u ts)
    go (inr le) = omega (arith, get_or-eq_default (counted ws ts) 0 {n = u} (rw (counted-length ws ts) le))

-- the loop over a check's findings: those of us are left
pub record Counting (ws ts ws' us : List ℕ) : Type 0 where
  pub rest : counted ws' us ≡ counted ws ts
  pub below : Below (length ws') us
  pub room : (u : ℕ) → get_or ws' u 0 + length us < 4294967296

pub counting-start : {ws ts : List ℕ} → Below (length ws) ts → length ts ≤ 16 → ((u : ℕ) → get_or ws u 0 + 16 < 4294967296) →
    Counting ws ts ws ts
counting-start below few room = record { rest = refl; below = below; room = λ u. omega (arith, room u) }

pub counting-next : {ws ts ws' us : List ℕ} {t : ℕ} → Counting ws ts ws' (t ∷ us) → Counting ws ts (set ws' t (get_or ws' t 0 + 1)) us
unfolding counted
counting-next {ws} {ts} {ws'} {us} {t} h = record {
  rest = h.rest;
  below = rw length-set (below-rest refl h.below);
  room = λ u. go u (same_or_not u t);
}
  where
    go : (u : ℕ) → (u ≡ t) ⊎ (u ≢ t) → get_or (set ws' t (get_or ws' t 0 + 1)) u 0 + length us < 4294967296
    go u (inl e) = rw (e, get_or-set_same ws' t (get_or ws' t 0 + 1) 0 (below-first refl h.below)) (omega (arith, h.room t))
    go u (inr n) = rw (get_or-set_other ws' t u (get_or ws' t 0 + 1) 0 n) (omega (arith, h.room u))

-- the loop over a stage's checks: k of them done, which have at most 16 findings each
pub record Tally (ws : List ℕ) (acts : List Action) (ws' : List ℕ) (k : ℕ) : Type 0 where
  pub is : ws' ≡ counted ws (found (take k acts))
  pub few : length (found (take k acts)) ≤ 16 * k

pub tally-start : (ws : List ℕ) (acts : List Action) → Tally ws acts ws 0
unfolding found counted
tally-start ws acts = record { is = refl; few = omega arith }

module _ {ws : List ℕ} {acts : List Action} {ws' : List ℕ} {k : ℕ} (h : Tally ws acts ws' k) where
  pub tally-length : length ws' ≡ length ws
  tally-length = ap length h.is ∙ counted-length ws (found (take k acts))

  pub tally-end : k ≡ length acts → length acts ≤ 16 → (ws' ≡ counted ws (found acts)) × (length (found acts) ≤ 256)
  tally-end e many =
      let all = ap found (take_all k acts (omega arith)) in (h.is ∙ ap (counted ws) all, omega (arith, ap length all, h.few))

  pub tally-room : length acts ≤ 16 → k < length acts → ((u : ℕ) → get_or ws u 0 + 256 < 4294967296) → (u : ℕ) →
      get_or ws' u 0 + 16 < 4294967296
  tally-room many lk room u = rw h.is (omega (arith, grown ws (found (take k acts)) u, h.few, room u))

  pub tally-next : {a : Action} → k < length acts → a ≡ action_at acts k → {ws'' : List ℕ} → ws'' ≡ counted ws' a.successors →
      length a.successors ≤ 16 → {k' : ℕ} → k' ≡ k + 1 → Tally ws acts ws'' k'
  tally-next {a} lk e {ws''} is most {k'} next =
      let more : found (take k' acts) ≡ found (take k acts) ++ a.successors = rw (next, add-one, e) (found-more acts k lk) in record {
        is = is ∙ rw (h.is, more, counted-append);
        few = omega (arith, ap length more, length-append (found (take k acts)) a.successors, h.few);
      }

-- what a decision's checks are, and an ending's lack of them
pub checks-below : {s : List ℕ} {i : ℕ} → IsDecision s i → Inside (problem_of s) → {n k : ℕ} {a : Action} → states (problem_of s) ≤ n →
    k < length (actions_at (problem_of s) i) → a ≡ action_at (actions_at (problem_of s) i) k → Below n a.successors
checks-below {s} {i} d any {n} {k} {a} wide lk e j lj =
    let m = any i k (get_or (action_at (actions_at (problem_of s) i) k).successors j 0) (form_of (node_at (problem_of s) i))
    (actions_at (problem_of s) i) (is-decision (node_at (problem_of s) i) d.tag)
    (member (action_at (actions_at (problem_of s) i) k).successors j (rw e at lj)) in
    rw e (omega arith)

pub nothing-counted : (p : Problem) (i : ℕ) {b : Bool} → b ≡ eqb (tag_of (node_at p i)) terminal_tag → b ≡ true → (ws : List ℕ) →
    (ws ≡ counted ws (found_at p i)) × (length (found_at p i) ≤ 256)
unfolding counted found actions_of
nothing-counted p i e g ws = rw (is-terminal (node_at p i) (ends p i e g)) (refl, omega arith)

-- the loop over the stages
pub record Census (p : Problem) (ws ws' : List ℕ) (s : ℕ) : Type 0 where
  pub upto : s ≤ states p
  pub is : ws' ≡ counted ws (found_below p s)
  pub few : length (found_below p s) ≤ 256 * s

pub census-start : (p : Problem) (ws : List ℕ) → Census p ws ws 0
unfolding counted found_below
census-start p ws = record { upto = omega arith; is = refl; few = omega arith }

module _ {p : Problem} {ws ws' : List ℕ} {s : ℕ} (h : Census p ws ws' s) where
  pub census-room : states p ≤ max_states → ((u : ℕ) → get_or ws u 0 ≡ 0) → (u : ℕ) → get_or ws' u 0 + 256 < 4294967296
  census-room most none u = rw h.is (omega (arith, grown ws (found_below p s) u, h.few, none u, h.upto))

  pub census-next : s < states p → {ws'' : List ℕ} → ws'' ≡ counted ws' (found_at p s) → length (found_at p s) ≤ 256 →
      Census p ws ws'' (s + 1)
  unfolding found_below
  census-next l is most = let z : s + 1 ≡ suc s = omega arith in record {
    upto = omega arith;
    is = is ∙ rw (h.is, z, counted-append);
    few = rw z (omega (arith, length-append (found_below p s) (found_at p s), most, h.few));
  }

  pub census-end : states p ≤ length ws → states p ≤ s → ((u : ℕ) → get_or ws u 0 ≡ 0) → (u : ℕ) → u < states p →
      get_or ws' u 0 ≡ waiting p [] u
  census-end wide ge none u l =
      let e : s ≡ states p = omega (arith, h.upto) in
      rw h.is
      (omega (arith, counted-at ws (found_below p s) u (omega arith), none u, outset p u, ap (λ (k : ℕ). times u (found_below p k)) e))
