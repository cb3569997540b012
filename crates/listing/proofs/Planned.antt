-- What the definition's test of the stages that the plan reaches says: the plan reaches them, and so their chosen checks exist.
use Prim.Native.Nat.{ℕ, zero, suc}
use mathlib.Core.Path.{◌≡◌, refl}
use mathlib.Core.Bool.{Bool, true, false, ◌||◌}
use mathlib.Core.Logic.{◌⊎◌, inl, inr, ⊎_elim}
use mathlib.Core.List.{List, [], ◌∷◌}
use borrow.Author.Tests.{eqb-true, eq-eqb}
use lib.Dec.{eqb}
use Rattle.model.proofs.TestLaws.{never, also-true}
use Rattle.model.specs.Problem.{Node, terminal, decision, Problem, Cell, node_at, cell_of, ◌∈◌, here, there}
use Rattle.model.specs.Policy.{Reach, arrived, onward, Closed, written}
use Rattle.listing.specs.Listing.{chosen_successors_of, chosen_successors, listed, reached_below}
use Rattle.listing.specs.Put.{Chooses}

-- a test or another
pub or-true : (a b : Bool) → (a || b) ≡ true → (a ≡ true) ⊎ (b ≡ true)
or-true true b h = inl refl
or-true false b h = inr h

pub or_left : (a b : Bool) → a ≡ true → (a || b) ≡ true
or_left a b h = rw h

pub or_right : (a b : Bool) → b ≡ true → (a || b) ≡ true
or_right true b h = refl
or_right false b h = h

-- the test of a list is that a number is in it
listed_in : (t : ℕ) (ts : List ℕ) → listed t ts ≡ true → t ∈ ts
unfolding listed
listed_in t [] h = never h
listed_in t (u ∷ us) h = ⊎_elim (λ e. rw (eqb-true t u e) here) (λ e. there (listed_in t us e)) (or-true (eqb t u) (listed t us) h)

pub in-listed : {t : ℕ} {ts : List ℕ} → t ∈ ts → listed t ts ≡ true
unfolding listed
in-listed (here {t} {ts}) = or_left (eqb t t) (listed t ts) (eq-eqb t t refl)
in-listed (there {t} {u} {ts} m) = or_right (eqb t u) (listed t ts) (in-listed m)

module _ (p : Problem) (cells : List Cell) where
  -- one step more, at the end
  step : (s t : ℕ) → Reach p (written cells) s t → (u : ℕ) → u ∈ chosen_successors p cells t → Reach p (written cells) s u
  step s t arrived u m = go (node_at p t) refl m
    where
      go : (n : Node) → node_at p t ≡ n → u ∈ chosen_successors_of n (cell_of cells t) → Reach p (written cells) t u
      go (terminal cost) e m = absurd (elim m [ ])
      go (decision form acts) e m = onward e refl m arrived
  step s t (onward e i v r) u m = onward e i v (step _ t r u m)

  pub reached-reach : (n t : ℕ) → reached_below p cells n t ≡ true → Reach p (written cells) p.start t
  unfolding reached_below
  reached-reach zero t h = rw (eqb-true t p.start h) arrived
  reached-reach (suc n) t h =
      ⊎_elim (λ e. reached-reach n t e)
      (λ e. let g = also-true _ _ e in step p.start n (reached-reach n n g.0) t (listed_in t (chosen_successors p cells n) g.1))
      (or-true (reached_below p cells n t) _ h)

  -- where the start's plan is complete, a stage that it reaches has its chosen check
  pub reached-chooses : Closed p (written cells) p.start → (n t : ℕ) → reached_below p cells n t ≡ true → Chooses p cells t
  reached-chooses complete n t h form acts e =
      let (i, is, exists) = complete t form acts (reached-reach n t h) e in
      let same : i ≡ (cell_of cells t).chosen = cc in
      rw (← same) exists
