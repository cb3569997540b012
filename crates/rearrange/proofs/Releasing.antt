-- Laws over plain variables for the loops.
use Prim.Native.Nat.{ℕ, zero, suc, ◌+◌, ◌-◌, ◌<◌, ◌≤◌}
use mathlib.Core.Path.{◌≡◌, refl, sym, ap, ◌∙◌}
use mathlib.Core.Bool.{Bool, true}
use mathlib.Core.Logic.{◌⊎◌, inl, inr, ◌≢◌}
use mathlib.Core.List.{List, [], ◌∷◌, ◌++◌, append-nil, append_assoc}
use native.Mathlib.Omega.{arith}
use native.Mathlib.Numerals.{add-one}
use lib.Dec.{eqb}
use lib.ListN.{length, get_or, set, take, length-set, get_or-eq_default}
use lib.Seq.{get_or-set_same, get_or-set_other, take_all}
use Rattle.model.specs.Format.{actions_of, tag_of, terminal_tag}
use Rattle.model.specs.Problem.{Problem, Action, node_at, action_at}
use Rattle.theory.proofs.Basics.{lt-or-le, same_or_not}
use Rattle.order.proofs.Counting.{times-append, one_same}
use Rattle.rearrange.proofs.Walking.{ends}
use Rattle.rearrange.proofs.Waits.{lessened-at, lessened-append}
use Rattle.order.specs.Times.{times}
use Rattle.rearrange.specs.Waits.{found, found_at, lessened}
use Rattle.sheet.proofs.Laws.{is-terminal, below-first, below-rest}
use Rattle.sheet.specs.Sheet.{Below}

pub one_further : (ws : List ℕ) (t : ℕ) → ((u : ℕ) → u < t → 0 < get_or ws u 0) → 0 < get_or ws t 0 → (u : ℕ) → u < t + 1 →
    0 < get_or ws u 0
one_further ws t h g u l = go (same_or_not u t)
  where
    go : (u ≡ t) ⊎ (u ≢ t) → 0 < get_or ws u 0
    go (inl e) = rw e g
    go (inr n) = h u (omega arith)

-- a number that is not 0 stands inside the list
pub inside : (ws : List ℕ) (t : ℕ) → 0 < get_or ws t 0 → t < length ws
inside ws t h = go (lt-or-le t (length ws))
  where
    go : (t < length ws) ⊎ (length ws ≤ t) → t < length ws
    go (inl l) = l
    go (inr le) = absurd (omega (arith, get_or-eq_default ws 0 {n = t} le))

-- none below the new lowest is 0
still-waiting : (ws : List ℕ) (t w least least' : ℕ) → t < length ws → ((u : ℕ) → u < least → 0 < get_or ws u 0) → (least' ≤ least) ×
    (w ≡ 0 → least' ≤ t) → (u : ℕ) → u < least' → 0 < get_or (set ws t w) u 0
still-waiting ws t w least least' l h r u lu = go (same_or_not u t) (lt-or-le 0 w)
  where
    go : (u ≡ t) ⊎ (u ≢ t) → (0 < w) ⊎ (w ≤ 0) → 0 < get_or (set ws t w) u 0
    go (inl e) (inl p) = rw (e, get_or-set_same ws t w 0 l) p
    go (inl e) (inr z) = absurd (omega (arith, r.1 (omega arith)))
    go (inr n) s = rw (get_or-set_other ws t u w 0 n) (h u (omega (arith, r.0)))

-- the loop over a check's findings: those of us are left
pub record Lowering (ws ts : List ℕ) (low : ℕ) (ws' : List ℕ) (least : ℕ) (us : List ℕ) : Type 0 where
  pub rest : lessened ws' us ≡ lessened ws ts
  pub enough : (u : ℕ) → times u us ≤ get_or ws' u 0
  pub below : Below (length ws') us
  pub lower : least ≤ low
  pub waits : (u : ℕ) → u < least → 0 < get_or ws' u 0

counted-below : (ws ts : List ℕ) → ((u : ℕ) → times u ts ≤ get_or ws u 0) → Below (length ws) ts
unfolding times
counted-below ws [] h j l = absurd (omega arith)
counted-below ws (t ∷ ts) h zero l = inside ws t (omega (arith, h t, one_same t))
counted-below ws (t ∷ ts) h (suc j) l = counted-below ws ts (λ u. omega (arith, h u)) j (omega arith)

pub lowering-start : {ws ts : List ℕ} {low : ℕ} → ((u : ℕ) → times u ts ≤ get_or ws u 0) → ((u : ℕ) → u < low → 0 < get_or ws u 0) →
    Lowering ws ts low ws low ts
lowering-start {ws} {ts} enough waits =
    record { rest = refl; enough = enough; below = counted-below ws ts enough; lower = omega arith; waits = waits }

module _ {ws ts ws' us : List ℕ} {low least t : ℕ} (h : Lowering ws ts low ws' least (t ∷ us)) where
  pub some_left : 0 < get_or ws' t 0
  unfolding times
  some_left = omega (arith, h.enough t, one_same t)

  pub lowering-next : {least' : ℕ} → (least' ≤ least) × (get_or ws' t 0 - 1 ≡ 0 → least' ≤ t) →
      Lowering ws ts low (set ws' t (get_or ws' t 0 - 1)) least' us
  unfolding lessened times
  lowering-next {least'} r = record {
    rest = h.rest;
    enough = λ u. go u (same_or_not u t);
    below = rw length-set (below-rest refl h.below);
    lower = omega (arith, r.0, h.lower);
    waits = still-waiting ws' t (get_or ws' t 0 - 1) least least' (below-first refl h.below) h.waits r;
  }
    where
      go : (u : ℕ) → (u ≡ t) ⊎ (u ≢ t) → times u us ≤ get_or (set ws' t (get_or ws' t 0 - 1)) u 0
      go u (inl e) = rw (e, get_or-set_same ws' t (get_or ws' t 0 - 1) 0 (below-first refl h.below)) (omega (arith, h.enough t, one_same t))
      go u (inr n) = rw (get_or-set_other ws' t u (get_or ws' t 0 - 1) 0 n) (omega (arith, h.enough u))

-- The findings of the first k checks, of one more, and of all.
pub found-more : (acts : List Action) (k : ℕ) → k < length acts → found (take (suc k) acts) ≡ found (take k acts) ++ (action_at acts k
    ).successors
unfolding found
found-more [] k l = absurd (omega arith)
found-more (a ∷ more) zero l = append-nil a.successors
found-more (a ∷ more) (suc k) l = ap (λ (x : List ℕ). a.successors ++ x) (found-more more k (omega arith)) ∙ sym
    (append_assoc a.successors (found (take k more)) (action_at more k).successors)

found-parts : (acts : List Action) (k u : ℕ) → k < length acts → times u (found (take k acts)) + times u (action_at acts k).successors ≤
    times u (found acts)
unfolding found times
found-parts [] k u l = absurd (omega arith)
found-parts (a ∷ more) zero u l = omega (arith, times-append u a.successors (found more))
found-parts (a ∷ more) (suc k) u l = omega (
  arith,
  times-append u a.successors (found (take k more)),
  times-append u a.successors (found more),
  found-parts more k u
      (omega arith),
)

-- the loop over a stage's checks: k of them done
pub record Releasing (ws : List ℕ) (acts : List Action) (low : ℕ) (ws' : List ℕ) (least k : ℕ) : Type 0 where
  pub is : ws' ≡ lessened ws (found (take k acts))
  pub lower : least ≤ low
  pub waits : (u : ℕ) → u < least → 0 < get_or ws' u 0

pub releasing-start : (ws : List ℕ) (acts : List Action) (low : ℕ) → ((u : ℕ) → u < low → 0 < get_or ws u 0) →
    Releasing ws acts low ws low 0
unfolding found lessened
releasing-start ws acts low h = record { is = refl; lower = omega arith; waits = h }

module _ {ws : List ℕ} {acts : List Action} {low : ℕ} {ws' : List ℕ} {least k : ℕ} (h : Releasing ws acts low ws' least k) where
  pub releasing-end : k ≡ length acts → ws' ≡ lessened ws (found acts)
  releasing-end e = h.is ∙ ap (λ (x : List Action). lessened ws (found x)) (take_all k acts (omega arith))

  module _ {a : Action} (lk : k < length acts) (e : a ≡ action_at acts k) where
    pub releasing-enough : ((u : ℕ) → times u (found acts) ≤ get_or ws u 0) → (u : ℕ) → times u a.successors ≤ get_or ws' u 0
    releasing-enough enough u = rw (h.is, e) (go (lt-or-le u (length ws)))
      where
        go : (u < length ws) ⊎ (length ws ≤ u) → times u (action_at acts k).successors ≤ get_or (lessened ws (found (take k acts))) u 0
        go (inl l) = omega (arith, lessened-at ws (found (take k acts)) u l, found-parts acts k u lk, enough u)
        go (inr le) = omega (arith, found-parts acts k u lk, enough u, get_or-eq_default ws 0 {n = u} le)

    pub releasing-next : {ws'' : List ℕ} {least' : ℕ} → ws'' ≡ lessened ws' a.successors → (least' ≤ least) ×
        ((u : ℕ) → u < least' → 0 < get_or ws'' u 0) → {k' : ℕ} → k' ≡ k + 1 → Releasing ws acts low ws'' least' k'
    releasing-next is r next = record {
      is = is ∙ rw (h.is, e, next, add-one, found-more acts k lk, lessened-append);
      lower = omega (arith, h.lower, r.0);
      waits = r.1;
    }

-- an ending has no findings
pub nothing-found : (p : Problem) (i : ℕ) {b : Bool} → b ≡ eqb (tag_of (node_at p i)) terminal_tag → b ≡ true → (ws : List ℕ) →
    ws ≡ lessened ws (found_at p i)
unfolding lessened found actions_of
nothing-found p i e g ws = rw (is-terminal (node_at p i) (ends p i e g)) refl
