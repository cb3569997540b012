-- Every stage keeps its least cost, and every plan what it costs.
use Prim.Native.Nat.{ℕ, zero, suc, ◌+◌, ◌<◌}
use mathlib.Core.Path.{◌≡◌, refl, ap, ◌∙◌}
use mathlib.Core.Bool.{Bool, true, false}
use mathlib.Core.Option.{Option, none, some}
use mathlib.Core.List.{List, [], ◌∷◌, map}
use native.Mathlib.Omega.{arith}
use borrow.Author.Tests.{ltb-true}
use lib.Dec.{ltb}
use lib.ListN.{length, get_or, length-map}
use Rattle.model.specs.Tests.{fork}
use Rattle.model.specs.Cost.{Cost, both, lesser}
use Rattle.model.specs.Optimal.{solution, bellman_at, bellman, optimal}
use Rattle.model.specs.Policy.{Policy, cost_at, policy_cost}
use Rattle.model.specs.Problem.{Kind, Action, action, Node, terminal, decision, Problem, states, node_at, action_at}
use Rattle.model.specs.QValue.{q_full, least_from}
use Rattle.layout.specs.Shape.{Inside}
use Rattle.theory.proofs.QValueLaws.{q_full-same, cost-same}
use Rattle.order.proofs.Pointing.{points}
use Rattle.order.proofs.Sorting.{joined-sorted, joined-map}
use Rattle.order.specs.Claims.{Perm, SameChoices}
use Rattle.order.specs.Moved.{at, moved_action, moved_node, moved}
use Rattle.order.specs.Order.{points_to}

pub get_d_map : {A B : Type 0} (f : A → B) (l : List A) (i : ℕ) (d : A) (e : B) → i < length l → get_or (map f l) i e ≡ f (get_or l i d)
get_d_map f [] i d e lt = absurd (omega arith)
get_d_map f (x ∷ xs) zero d e lt = refl
get_d_map f (x ∷ xs) (suc i) d e lt = get_d_map f xs i d e (omega arith)

-- A renumbered check is priced as the old one by the values at the new numbers.
pub q_full-moved : (k : Kind) (v : ℕ → Cost) (to : List ℕ) (a : Action) → q_full k v (moved_action to a) ≡ q_full k (λ t. v (at to t)) a
q_full-moved k v to a = ap (both ◌+◌ (some a.cost))
    (joined-sorted k v (map (at to) a.successors) ∙ joined-map k v (at to) a.successors)

least-map : (x : Cost) (f : Action → Cost) (g : Action → Action) (acts : List Action) →
    least_from lesser x f (map g acts) ≡ least_from lesser x (λ a. f (g a)) acts
unfolding least_from
least-map x f g [] = refl
least-map x f g (a ∷ more) = least-map (lesser x (f (g a))) f g more

bellman-moved : (k : Kind) (v : ℕ → Cost) (to : List ℕ) (n : Node) → bellman_at k v (moved_node to n) ≡ bellman_at k (λ t. v (at to t)) n
unfolding bellman_at moved_node
bellman-moved k v to (terminal cost) = refl
bellman-moved k v to (decision form acts) = least-map none (q_full k v) (moved_action to) acts ∙ cost-same _ _ acts
    (λ i l. q_full-moved k v to (action_at acts i))

-- What a plan costs at a renumbered stage is what it costs at the old one by the values at the new numbers.
cost-moved : (k : Kind) (v : ℕ → Cost) (to : List ℕ) (n : Node) (o : Option ℕ) →
    cost_at k v (moved_node to n) o ≡ cost_at k (λ t. v (at to t)) n o
unfolding cost_at moved_node
cost-moved k v to (terminal cost) o = refl
cost-moved k v to (decision form acts) none = refl
cost-moved k v to (decision form acts) (some i) = rw (length-map acts (moved_action to)) (go (ltb i (length acts)) refl)
  where
    go : (b : Bool) → ltb i (length acts) ≡ b →
        fork b (λ _. q_full k v (action_at (map (moved_action to) acts) i)) (λ _. none) ≡
        fork b (λ _. q_full k (λ t. v (at to t)) (action_at acts i)) (λ _. none)
    go true l =
        rw (get_d_map (moved_action to) acts i (action 0 []) (action 0 []) (ltb-true _ _ l)) (q_full-moved k v to (action_at acts i))
    go false l = refl

-- The two equations at a stage, V*'s and a plan's, where the price of each check of it is the same by two values.
module _ (k : Kind) (v v' : ℕ → Cost) where
  abbrev pub PricedAlike : Node → Type 0
  PricedAlike (terminal cost) = Unit {0}
  PricedAlike (decision form acts) = (i : ℕ) → i < length acts → q_full k v (action_at acts i) ≡ q_full k v' (action_at acts i)

  pub bellman-alike : (n : Node) → PricedAlike n → bellman_at k v n ≡ bellman_at k v' n
  unfolding bellman_at
  bellman-alike (terminal cost) h = refl
  bellman-alike (decision form acts) h = cost-same _ _ acts h

  pub cost-alike : (n : Node) (o : Option ℕ) → PricedAlike n → cost_at k v n o ≡ cost_at k v' n o
  unfolding cost_at
  cost-alike (terminal cost) o h = refl
  cost-alike (decision form acts) none h = refl
  cost-alike (decision form acts) (some i) h = go (ltb i (length acts)) refl
    where
      go : (b : Bool) → ltb i (length acts) ≡ b →
          fork b (λ _. q_full k v (action_at acts i)) (λ _. none) ≡ fork b (λ _. q_full k v' (action_at acts i)) (λ _. none)
      go true l = h i (ltb-true _ _ l)
      go false l = refl

  -- they are, where the values agree at all stages that it points to
  pub priced-alike : (p : Problem) → Inside p → (s : ℕ) → ((t : ℕ) → t < states p → points_to (node_at p s) t ≡ true → v t ≡ v' t) →
      PricedAlike (node_at p s)
  priced-alike p any s agree = go (node_at p s) refl
    where
      go : (n : Node) → node_at p s ≡ n → PricedAlike n
      go (terminal cost) e = tt
      go (decision form acts) e = λ i l. q_full-same k v v' (action_at acts i)
          (λ t m. agree t (any s i t form acts e m) (points p s i t acts e l m))

-- Of two equations one is the other renumbered: so are their solutions, as deep as one looks, circles or none.
module _ (n : ℕ) (from to : List ℕ) (h : Perm n from to) (step step' : ℕ → (ℕ → Cost) → Cost)
    (stages : (s : ℕ) (v v' : ℕ → Cost) → ((t : ℕ) → t < n → v t ≡ v' t) → step s v ≡ step s v')
    (over : (s : ℕ) → s < n → (v : ℕ → Cost) → step' s v ≡ step (at from s) (λ t. v (at to t))) where
  solution-moved : (k s : ℕ) → s < n → solution step' k s ≡ solution step k (at from s)
  unfolding solution
  solution-moved zero s l = over s l (λ t. none)
  solution-moved (suc k) s l =
      over s l (solution step' k) ∙
      stages (at from s) _ _ (λ t lt. solution-moved k (at to t) (h.to_below t lt) ∙ ap (solution step k) (h.from_to t lt))

module _ (tag : ℕ) (p : Problem) (from to : List ℕ) (h : Perm (states p) from to) where
  pub moved-states : states (moved tag from to p) ≡ states p
  unfolding moved
  moved-states = length-map from (λ s. moved_node to (node_at p s)) ∙ h.from_length

  pub moved-node : (s : ℕ) → s < states p → node_at (moved tag from to p) s ≡ moved_node to (node_at p (at from s))
  unfolding moved
  moved-node s l = get_d_map (λ s. moved_node to (node_at p s)) from s 0 (terminal 0) (omega (arith, h.from_length))

  moved-kind : (moved tag from to p).kind ≡ p.kind
  unfolding moved
  moved-kind = refl

  module _ (any : Inside p) where
    -- V* of the new problem at a new number is V* of the old problem at the old number
    pub keeps-optimal : (s : ℕ) → s < states p → optimal (moved tag from to p) s ≡ optimal p (at from s)
    unfolding optimal
    keeps-optimal s l =
        rw moved-states
        (solution-moved (states p) from to h (bellman p) (bellman (moved tag from to p))
        (λ u v v' agree. bellman-alike p.kind v v' (node_at p u) (priced-alike p.kind v v' p any u (λ t lt e. agree t lt)))
        (λ u lu v. rw (moved-kind, moved-node u lu) (bellman-moved p.kind v to (node_at p (at from u)))) (states p) s l)

    pub keeps-optimal-old : (t : ℕ) → t < states p → optimal (moved tag from to p) (at to t) ≡ optimal p t
    keeps-optimal-old t l = keeps-optimal (at to t) (h.to_below t l) ∙ ap (optimal p) (h.from_to t l)

    -- and so does every plan's cost, of plans that choose the same checks
    pub keeps-plan-cost : (π ρ : Policy) → SameChoices (states p) from π ρ → (t : ℕ) → t < states p →
        policy_cost (moved tag from to p) ρ (at to t) ≡ policy_cost p π t
    unfolding policy_cost
    keeps-plan-cost π ρ same t l =
        rw moved-states
        (solution-moved (states p) from to h (λ s v. cost_at p.kind v (node_at p s) (π s))
        (λ s v. cost_at (moved tag from to p).kind v (node_at (moved tag from to p) s) (ρ s))
        (λ u v v' agree.
        cost-alike p.kind v v' (node_at p u) (π u) (priced-alike p.kind v v' p any u (λ t lt e. agree t lt)))
        (λ u lu v. rw (moved-kind, moved-node u lu, same u lu) (cost-moved p.kind v to (node_at p (at from u)) (π (at from u))))
        (states p) (at to t) (h.to_below t l) ∙
        ap (solution (λ s v. cost_at p.kind v (node_at p s) (π s)) (states p)) (h.from_to t l))
