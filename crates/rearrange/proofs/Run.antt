-- The loop that places: k stages placed so far.
use Prim.Native.Nat.{ℕ, suc, ◌+◌, ◌-◌, ◌<◌, ◌≤◌}
use mathlib.Core.Path.{◌≡◌, refl, sym, ap, ◌∙◌}
use mathlib.Core.Bool.{true, false}
use mathlib.Core.Logic.{◌⊎◌, inl, inr, ◌≢◌}
use mathlib.Core.List.{List, [], ◌∷◌, ◌++◌}
use native.Mathlib.Omega.{arith}
use native.Mathlib.Numerals.{add-one}
use borrow.Author.Tests.{eq-eqb, ne_eqb, lt-ltb, le-ltb}
use lib.ListN.{length, get_or, set, take, length-set}
use lib.Seq.{length-take-le, take-suc-set, get_or-set_same, get_or-set_other}
use Rattle.model.specs.Problem.{Problem, states, node_at}
use Rattle.layout.specs.Shape.{Inside}
use Rattle.theory.proofs.Basics.{lt-or-le, same_or_not}
use Rattle.order.proofs.Placing.{lowest-is, lowest-none, Placed, nothing_placed, more-placed}
use Rattle.order.proofs.Pointing.{pointed-below}
use Rattle.rearrange.proofs.Waits.{times-points, free-waiting, waiting-own, waiting-other, lessened-at, lessened-length}
use Rattle.order.specs.Order.{free, next, placing, order}
use Rattle.order.specs.Times.{times}
use Rattle.rearrange.specs.Waits.{found_at, waiting, lessened}

-- findings are stages, so past the stages none is counted
found-stage : (p : Problem) → Inside p → (s u : ℕ) → states p ≤ u → times u (found_at p s) ≡ 0
found-stage p any s u le = go (lt-or-le 0 (times u (found_at p s)))
  where
    go : (0 < times u (found_at p s)) ⊎ (times u (found_at p s) ≤ 0) → times u (found_at p s) ≡ 0
    go (inl h) = absurd (omega (arith, pointed-below p any s u (times-points (node_at p s) u h)))
    go (inr h) = omega arith

-- one turn of placing
turn : (p : Problem) (j : ℕ) (ys : List ℕ) (t : ℕ) → next p ys ≡ t → t < states p → placing p j (ys ++ (t ∷ [])) ≡ placing p (suc j) ys
unfolding placing
turn p j ys t e l = rw (e, lt-ltb t (states p) l)

-- k stages placed: the run from here is the run from the outset, and the counts are theirs
pub record Run (p : Problem) (n : ℕ) (ws₀ old₀ ws old : List ℕ) (low k : ℕ) : Type 0 where
  pub upto : k ≤ n
  pub wide : length ws ≡ length ws₀
  pub long : length old ≡ length old₀
  pub placed : Placed p (take k old)
  pub rest : placing p (n - k) (take k old) ≡ order p
  pub waits : (u : ℕ) → u < n → get_or ws u 0 ≡ waiting p (take k old) u
  pub lows : (u : ℕ) → u < low → 0 < get_or ws u 0

pub run-start : {p : Problem} {n : ℕ} {ws old : List ℕ} → n ≡ states p → ((u : ℕ) → u < states p → get_or ws u 0 ≡ waiting p [] u) →
    Run p n ws old ws old 0 0
unfolding order
run-start {p} {n} e h = record {
  upto = omega arith;
  wide = refl;
  long = refl;
  placed = nothing_placed p;
  rest = let z : n - 0 ≡ states p = omega arith in ap (λ (m : ℕ). placing p m []) z;
  waits = λ u l. h u (omega arith);
  lows = λ u l. absurd (omega arith);
}

module _ {p : Problem} {n : ℕ} {ws₀ old₀ ws old : List ℕ} {low k : ℕ} (h : Run p n ws₀ old₀ ws old low k)
    (count : n ≡ states p) (room : (states p ≤ length ws₀) × (states p ≤ length old₀)) where
  wide : n ≤ length ws₀
  wide = omega arith

  long : n ≤ length old₀
  long = omega arith

  abbrev xs : List ℕ
  xs = take k old

  xs-length : length xs ≡ k
  xs-length = length-take-le k old (omega (arith, h.upto, h.long))

  -- all are placed
  pub run-full : n ≤ k → (n ≡ length (order p)) × (take n old ≡ order p) × ((u : ℕ) → u < states p → get_or ws u 0 ≡ waiting p (order p) u)
  unfolding placing
  run-full le =
      let same : k ≡ n = omega (arith, h.upto) in
      let z : n - k ≡ 0 = omega arith in
      let e : xs ≡ order p = rw z at h.rest in
      (sym same ∙ sym xs-length ∙ ap length e, rw same at e, λ u l. h.waits u (omega arith) ∙ ap (λ (ys : List ℕ). waiting p ys u) e)

  module _ (lt : k < n) where
    busy : (u : ℕ) → u < n → 0 < get_or ws u 0 → free p xs u ≡ false
    busy u l g = free-waiting p xs u ∙ ne_eqb (waiting p xs u) 0 (omega (arith, h.waits u l))

    m : n - k ≡ suc (n - (k + 1))
    m = omega arith

    -- none is free
    stuck : ((u : ℕ) → u < n → 0 < get_or ws u 0) → xs ≡ order p
    unfolding placing
    stuck none =
        let last : next p xs ≡ states p = lowest-none (states p) 0 (free p xs) (λ u a b. busy u (omega arith) (none u (omega arith)))
        ∙ omega arith in
        rw (m, last, le-ltb (states p) (states p) (omega arith)) at h.rest

    pub run-stuck : ((u : ℕ) → u < n → 0 < get_or ws u 0) →
        (k ≡ length (order p)) × (xs ≡ order p) × ((u : ℕ) → u < states p → get_or ws u 0 ≡ waiting p (order p) u)
    run-stuck none = let e = stuck none in
        (sym xs-length ∙ ap length e, e, λ u l. h.waits u (omega arith) ∙ ap (λ (ys : List ℕ). waiting p ys u) e)

    -- t is placed
    module _ {t : ℕ} (found : (t < n) × ((u : ℕ) → u < t → 0 < get_or ws u 0) × (get_or ws t 0 ≡ 0)) (any : Inside p) where
      is_free : free p xs t ≡ true
      is_free = free-waiting p xs t ∙ eq-eqb (waiting p xs t) 0 (omega (arith, h.waits t found.0, found.2))

      is-next : next p xs ≡ t
      is-next = lowest-is (states p) 0 (free p xs) t (omega arith) (omega arith) is_free (λ u a b. busy u (omega arith) (found.1 u b))

      abbrev ws1 : List ℕ
      ws1 = set ws t (k + 1)

      own : get_or ws1 t 0 ≡ k + 1
      own = get_or-set_same ws t (k + 1) 0 (omega (arith, h.wide))

      pub run-enough : (u : ℕ) → times u (found_at p t) ≤ get_or ws1 u 0
      run-enough u = go (same_or_not u t) (lt-or-le u n)
        where
          go : (u ≡ t) ⊎ (u ≢ t) → (u < n) ⊎ (n ≤ u) → times u (found_at p t) ≤ get_or ws1 u 0
          go (inl e) s = rw e (omega (arith, (waiting-own p xs t (omega arith) is_free h.placed).1))
          go (inr d) (inl l) = rw (get_or-set_other ws t u (k + 1) 0 d)
              (omega (arith, waiting-other p xs t (omega arith) is_free h.placed u d, h.waits u l))
          go (inr d) (inr l) = omega (arith, found-stage p any t u (omega arith))

      pub run-lows : (u : ℕ) → u < t + 1 → 0 < get_or ws1 u 0
      run-lows u l = go (same_or_not u t)
        where
          go : (u ≡ t) ⊎ (u ≢ t) → 0 < get_or ws1 u 0
          go (inl e) = rw e (omega (arith, own))
          go (inr d) = rw (get_or-set_other ws t u (k + 1) 0 d) (found.1 u (omega arith))

      pub run-next : {ws2 : List ℕ} {low2 : ℕ} → ws2 ≡ lessened ws1 (found_at p t) → ((u : ℕ) → u < low2 → 0 < get_or ws2 u 0) → Run p n ws₀
          old₀ ws2 (set old k t) low2 (k + 1)
      run-next {ws2} {low2} is lows = record {
        upto = omega arith;
        wide = ap length is ∙ (lessened-length ws1 (found_at p t) ∙ (length-set ws t (k + 1) ∙ h.wide));
        long = length-set old k t ∙ h.long;
        placed = rw grown (more-placed p xs t (omega arith) is_free h.placed);
        rest = rw grown onwards;
        waits = λ u l. rw (grown, is) (counts u l (same_or_not u t));
        lows = lows;
      }
        where
          grown : take (k + 1) (set old k t) ≡ xs ++ (t ∷ [])
          grown = rw add-one (take-suc-set old k t (omega (arith, h.long)))

          onwards : placing p (n - (k + 1)) (xs ++ (t ∷ [])) ≡ order p
          onwards = turn p (n - (k + 1)) xs t is-next (omega arith) ∙ (ap (λ (j : ℕ). placing p j xs) (sym m) ∙ h.rest)

          counts : (u : ℕ) → u < n → (u ≡ t) ⊎ (u ≢ t) → get_or (lessened ws1 (found_at p t)) u 0 ≡ waiting p (xs ++ (t ∷ [])) u
          counts u l (inl e) =
              let w = waiting-own p xs t (omega arith) is_free h.placed in
              rw e (omega
              (arith, lessened-at ws1 (found_at p t) t (rw (length-set ws t (k + 1)) (omega (arith, h.wide))), own, w, xs-length))
          counts u l (inr d) =
              omega (
                arith,
                lessened-at ws1 (found_at p t) u (rw (length-set ws t (k + 1)) (omega (arith, h.wide))),
                get_or-set_other ws t u
                    (k + 1) 0 d,
                h.waits u l,
                waiting-other p xs t (omega arith) is_free h.placed u d,
              )
