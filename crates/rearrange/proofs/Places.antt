-- The places of the numbers of a list.
use Prim.Native.Nat.{ℕ, ◌+◌, ◌-◌, ◌<◌, ◌≤◌}
use mathlib.Core.Path.{◌≡◌, refl, sym, ap, ◌∙◌}
use mathlib.Core.Bool.{Bool, true, false}
use mathlib.Core.Logic.{◌⊎◌, inl, inr, ◌≢◌}
use mathlib.Core.List.{List, [], ◌∷◌}
use native.Mathlib.Omega.{arith}
use native.Mathlib.Numerals.{add-one}
use lib.ListN.{length, set, take, length-set}
use lib.Seq.{take-suc, get_or-take, get_or-set_same, get_or-set_other, length-take-le, ext_get_or}
use Rattle.model.proofs.TestLaws.{never, every_true, true-every}
use Rattle.theory.proofs.Basics.{same_or_not}
use Rattle.order.specs.Order.{inverse, lists}
use Rattle.order.specs.Moved.{at}
use Rattle.order.specs.Claims.{Perm}
use Rattle.order.specs.Times.{times}
use Rattle.order.proofs.Counting.{times-append, times-other, times-among, among-times, at-times, lists-perm}
use Rattle.rearrange.specs.Turning.{OneLess, Marked}

-- The loop that lessens: the entries below t are 1 less.
pub record Lowered (n : ℕ) (a b : List ℕ) (t : ℕ) : Type 0 where
  pub upto : t ≤ n
  pub same : length b ≡ length a
  pub less : (u : ℕ) → u < t → at b u + 1 ≡ at a u
  pub rest : (u : ℕ) → t ≤ u → at b u ≡ at a u

-- The loop that marks.
pub marked_start : (list : List ℕ) (n : ℕ) (new : List ℕ) → ((u : ℕ) → at new u ≡ 0) → Marked list n 0 new new
unfolding times
marked_start list n new zeros = record { same = refl; upto = omega arith; each = λ t l. inl (zeros t, refl) }

module _ {list : List ℕ} {n i : ℕ} {new₀ new : List ℕ} (h : Marked list n i new₀ new) (long : n ≤ length list) (l : i < n) where
  -- a number other than entry i
  other : (new' : List ℕ) (u : ℕ) → u < n → u ≢ at list i → at new' u ≡ at new u →
      ((at new' u ≡ 0) × (times u (take (i + 1) list) ≡ 0)) ⊎ ((1 ≤ at new' u) × (at new' u ≤ i + 1) × (at list (at new' u - 1) ≡ u))
  other new' u lu ne e = rw e (go (h.each u lu))
    where
      go : ((at new u ≡ 0) × (times u (take i list) ≡ 0)) ⊎ ((1 ≤ at new u) × (at new u ≤ i) × (at list (at new u - 1) ≡ u)) →
          ((at new u ≡ 0) × (times u (take (i + 1) list) ≡ 0)) ⊎ ((1 ≤ at new u) × (at new u ≤ i + 1) × (at list (at new u - 1) ≡ u))
      go (inl (z, none)) =
          inl (
            z,
            rw (add-one i, take-suc list i 0 (omega arith), times-append u (take i list) (at list i ∷ []))
                (omega (arith, none, times-other u (at list i) ne)),
          )
      go (inr (some, low, is)) = inr (some, omega arith, is)

  pub marked-hit : n ≤ length new₀ → (t x : ℕ) → t ≡ at list i → t < n → x ≡ i + 1 → Marked list n (i + 1) new₀ (set new t x)
  marked-hit wide t x is lt ex = record {
    same = length-set new t x ∙ h.same;
    upto = omega arith;
    each = λ u lu. go u lu (same_or_not u t);
  }
    where
      here : at (set new t x) t ≡ x
      here = get_or-set_same new t x 0 (omega (arith, h.same))

      go : (u : ℕ) → u < n → (u ≡ t) ⊎ (u ≢ t) →
          ((at (set new t x) u ≡ 0) × (times u (take (i + 1) list) ≡ 0)) ⊎
          ((1 ≤ at (set new t x) u) × (at (set new t x) u ≤ i + 1) × (at list (at (set new t x) u - 1) ≡ u))
      go u lu (inl e) =
          let m : x - 1 ≡ i = omega arith in inr (rw (e, here) (omega arith, omega arith, rw m (sym is)))
      go u lu (inr e) = other (set new t x) u lu (λ z. e (z ∙ sym is)) (get_or-set_other new t u x 0 e)

  pub marked-miss : (t : ℕ) → t ≡ at list i → n ≤ t → Marked list n (i + 1) new₀ new
  marked-miss t is ge = record {
    same = h.same;
    upto = omega arith;
    each = λ u lu. other new u lu (omega arith) refl;
  }

-- All marked, and each 1 less: the list has every number, and they are its places.
module _ {list : List ℕ} {n : ℕ} {new₀ new : List ℕ} (h : Marked list n n new₀ new) (long : n ≤ length list) where
  abbrev L : List ℕ
  L = take n list

  full-length : length L ≡ n
  full-length = length-take-le n list long

  module _ {last : List ℕ} (less : OneLess n new last) where
    place : (t : ℕ) → t < n → (at last t < n) × (at L (at last t) ≡ t)
    place t l = go (h.each t l)
      where
        go : ((at new t ≡ 0) × (times t (take n list) ≡ 0)) ⊎ ((1 ≤ at new t) × (at new t ≤ n) × (at list (at new t - 1) ≡ t)) →
            (at last t < n) × (at L (at last t) ≡ t)
        go (inl (z, _)) = absurd (omega (arith, less.less t l))
        go (inr (some, low, is)) =
            let e : at new t - 1 ≡ at last t = omega (arith, less.less t l) in
            let below : at last t < n = omega (arith, less.less t l) in
            (below, get_or-take n list (at last t) 0 below ∙ (rw e at is))

    pub all_listed : lists n L ≡ true
    unfolding lists
    all_listed = true-every n _ (λ t l.
        let (below, is) = place t l in times-among t L (rw is at (at-times L (at last t) (rw full-length below))))

    pub way_back : n ≤ length last → take n last ≡ inverse L
    way_back wide = ext_get_or 0 _ _ (length-take-le n last wide ∙ sym perm.to_length) each
      where
        perm : Perm n L (inverse L)
        perm = lists-perm n L full-length all_listed

        each : (t : ℕ) → t < length (take n last) → at (take n last) t ≡ at (inverse L) t
        each t lt =
            let l : t < n = rw (length-take-le n last wide) at lt in
            let (below, is) = place t l in
            get_or-take n last t 0 l ∙ sym (ap (at (inverse L)) (sym is) ∙ perm.to_from (at last t) below)

  pub not_listed : (u : ℕ) × (u < n) × (at new u ≡ 0) → lists n L ≡ false
  unfolding lists
  not_listed (u, l, z) = go (lists n L) refl
    where
      none : times u L ≡ 0
      none = by (h.each u l)
        where
          by : ((at new u ≡ 0) × (times u (take n list) ≡ 0)) ⊎ ((1 ≤ at new u) × (at new u ≤ n) × (at list (at new u - 1) ≡ u)) →
              times u L ≡ 0
          by (inl (_, e)) = e
          by (inr (some, _, _)) = absurd (omega arith)

      go : (b : Bool) → lists n L ≡ b → b ≡ false
      go true e = absurd (omega (arith, none, among-times u L (every_true n _ e u l)))
      go false e = refl

  -- both ways at once
  pub places-are : (r : Bool) {last : List ℕ} → (r ≡ true → OneLess n new last) → (r ≡ false → (u : ℕ) × (u < n) × (at new u ≡ 0)) →
      n ≤ length last → (r ≡ lists n L) × (r ≡ true → take n last ≡ inverse L)
  places-are true less none wide = (sym (all_listed (less refl)), λ _. way_back (less refl) wide)
  places-are false less none wide = (sym (not_listed (none refl)), λ z. never z)
