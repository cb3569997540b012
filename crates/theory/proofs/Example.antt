-- Not vacuous: sheet A, by its literal bytes, is accepted, and a list of calls on it, two of them refused, ends settled at 500; sheets C
-- and D show what a looser order of findings keeps and what a repeat costs; on sheet H, where no check leads to an ending, calls end none,
-- and on sheet G, where one does, settled; sheet J, with a counted junction, is accepted, and refused once that has lost a check.
use Prim.Native.Nat.{ℕ, ◌+◌, ◌<◌, ◌≤◌}
use mathlib.Core.Path.{◌≡◌, refl, ap}
use mathlib.Core.Bool.{true}
use mathlib.Core.Option.{none as no_cost, some}
use mathlib.Core.Logic.{◌⊎◌, inl, inr}
use mathlib.Core.List.{List, [], ◌∷◌, ◌++◌, map}
use native.Mathlib.Omega.{arith}
use borrow.Author.Tests.{ltb-true}
use lib.Dec.{lit<, lit≤, ltb}
use lib.ListN.{length, get_or, take, drop, get_or-eq_default}
use Rattle.model.proofs.TestLaws.{every_true}
use Rattle.model.specs.Tests.{every}
use Rattle.model.specs.Problem.{worst, action, value_of}
use Rattle.model.specs.Limits.{max_states}
use Rattle.model.specs.Format.{Bytes, actions_of, form_of, action_place, node_place, offset, action_offset}
use Rattle.model.specs.Read.{problem_of, cells_of}
use Rattle.model.specs.Cost.{amount, both, times}
use Rattle.model.specs.Questions.{refusal, refusal_under}
use Rattle.model.specs.Earlier.{strict_refusal, checked_refusal, plain_refusal}
use Rattle.model.specs.Optimal.{bellman_cut_at, optimal}
use Rattle.model.specs.History.{change, History, nothing, raise, mark}
use Rattle.model.proofs.Computing.{computing}
use Rattle.model.specs.Report.{bytes_after, largest}
use Rattle.model.specs.Calls.{Call, call_on, Calls, none, one, left}
use Rattle.model.specs.Demands.{Demand2}
use Rattle.model.specs.Demands.{Accepted, start_cost, Best, NoPlan, NoneAt, Demand3, Raised, Loosened, Withdrawn}
use Rattle.model.specs.Demands.{FormAdded, without_check}
use Rattle.model.specs.Rows.{sheet_a, sheet_c, sheet_d, sheet_g, sheet_h, sheet_j}
use Rattle.theory.proofs.Basics.{lt-or-le}
use Rattle.theory.proofs.Limits.{accepted-before, limit-raised}
use Rattle.theory.proofs.Loosened.{order-loosened}
use Rattle.theory.proofs.Withdrawn.{checks-withdrawn}
use Rattle.theory.proofs.Counted.{form-added, loss-refused}
use Rattle.theory.proofs.Promises.{settled-pays}
use Rattle.theory.proofs.Demands.{demand2, demand3}

-- budget 2, then a table that is too short, then budget 0, then the largest
abbrev worked : List ℕ
worked = bytes_after sheet_a max_states 2

abbrev pub calls_a : List Call
calls_a = call_on sheet_a max_states 2 ∷ call_on worked 0 2 ∷ call_on worked (max_states + 4) 0 ∷ call_on worked max_states largest ∷ []

pub made-A : Calls sheet_a calls_a
unfolding computing
made-A = one max_states 2 (one 0 2 (one (max_states + 4) 0 (one max_states largest none)))

-- what they answer: stopped, refused 1, refused 9, settled
abbrev numbers_of : Call → List ℕ
numbers_of c = c.number ∷ c.price ∷ c.passes ∷ c.raises ∷ c.budget ∷ []

pub answers-A : map numbers_of calls_a ≡
    (102 ∷ 200 ∷ 2 ∷ 2 ∷ 2 ∷ []) ∷ (1 ∷ 0 ∷ 0 ∷ 0 ∷ 2 ∷ [])
    ∷ (9 ∷ 0 ∷ 0 ∷ 0 ∷ 0 ∷ []) ∷ (100 ∷ 500 ∷ 2 ∷ 1 ∷ largest ∷ []) ∷ []
unfolding computing
answers-A = refl

-- bytes, by a computed test
pub tested : (s : List ℕ) → every (length s) (λ i. ltb (get_or s i 0) 256) ≡ true → Bytes s
tested s h i = go (lt-or-le i (length s))
  where
    go : (i < length s) ⊎ (length s ≤ i) → get_or s i 0 < 256
    go (inl l) = ltb-true _ _ (every_true (length s) _ h i l)
    go (inr le) = rw (get_or-eq_default s 0 {n = i} le) (omega arith)

pub accepted-A : Accepted sheet_a
unfolding computing
accepted-A = record { bytes = tested sheet_a refl; yes = refl }

pub demand-A : Demand3 sheet_a calls_a
demand-A = demand3 accepted-A made-A

-- the last part of demand 3 speaks: the start is settled below the ceiling, at 500
pub price-A : value_of (cells_of (left sheet_a calls_a)) 0 ≡ 500
unfolding computing left
price-A = refl

pub best-A : Best (problem_of sheet_a) (cells_of (left sheet_a calls_a))
unfolding computing left
best-A = demand-A.best refl (lit< tt)

-- Demand 2 rules out an invented count: a settled call on A that reports no pass and no raise, and is right in all else, does not meet it
abbrev settled_a : Call
settled_a = call_on sheet_a max_states largest

abbrev invented_a : Call
invented_a = record {
  budget = settled_a.budget;
  number = settled_a.number;
  price = settled_a.price;
  passes = 0;
  raises = 0;
  bytes = settled_a.bytes;
}

pub invented-A : Demand2 sheet_a max_states largest invented_a → ⊥
unfolding computing
invented-A d = let three : ◌≡◌ {A = ℕ} 0 3 = ap (λ (c : Call). c.raises) d.as_defined in absurd (omega arith)

-- A's three raises, in the order in which work makes them: stage 0 from 0 to 200, stage 1 from 0 to 400, stage 0 from 200 to 500
pub history-A : History (problem_of sheet_a) (record { cells = cells_of sheet_a; raises = 0 })
    (change 0 0 200 ∷ change 1 0 400 ∷ change 0 200 500 ∷ [])
    (record { cells = cells_of settled_a.bytes; raises = settled_a.raises })
unfolding computing bellman_cut_at
history-A =
    raise 0 200 (lit< tt) refl refl (lit< tt) (raise 1 400 (lit< tt) refl refl (lit< tt) (raise 0 500 (lit< tt) refl refl (lit< tt)
    (mark 3 0 (lit< tt) refl (mark 0 1 (lit< tt) refl nothing))))

-- Sheet D lists one stage twice. The order that question 6 once asked for refused it, and it is accepted; sheet C, which is whole too and
-- lists none twice, was accepted then, and keeps what it had.
pub strict-D : (strict_refusal max_states (sheet_d 1 0 0) max_states largest ≡ 6) × (refusal (sheet_d 1 0 0) max_states largest ≡ 0)
unfolding computing
strict-D = (refl, refl)

pub loosened-C : Loosened max_states (sheet_c 1 10 40 40 20)
unfolding computing
loosened-C = order-loosened max_states (sheet_c 1 10 40 40 20) refl

-- D's one check costs 100 and twice what stage 1 costs, by least costs; worked to the end, that is the start's value, 160
abbrev worked_d : List ℕ
worked_d = bytes_after (sheet_d 1 0 0) max_states largest

pub accepted-D : Accepted worked_d
unfolding computing
accepted-D = record { bytes = tested worked_d refl; yes = refl }

pub pays-D : (value_of (cells_of worked_d) 0 ≡ 160) × (160 ≡ amount (both ◌+◌ (some 100) (times 2 (optimal (problem_of worked_d) 1))))
unfolding computing
pays-D = (refl, settled-pays worked_d accepted-D refl 0 0 2 1 (action 100 (1 ∷ 1 ∷ []) ∷ []) refl (lit< tt) (lit< tt) refl refl refl)

-- Sheet H comes out none, which says that it has no complete plan; sheet G, which has one, does not, although one of its checks leads to
-- a junction without checks. V* of their starts is none, and 130.
pub none-H : NoneAt sheet_h (call_on sheet_h max_states largest)
unfolding computing
none-H = (demand2 sheet_h (tested sheet_h refl) max_states largest).none refl

pub least-H : start_cost sheet_h ≡ no_cost
least-H = none-H.least

pub plan-G : NoPlan (problem_of (sheet_g worst)) → ⊥
unfolding computing
plan-G no_complete_plan =
    let z = (demand2 (sheet_g worst) (tested (sheet_g worst) refl) max_states largest).none_where (lit≤ tt) refl no_complete_plan in
    absurd (omega arith)

pub least-G : start_cost (sheet_g worst) ≡ some 130
unfolding computing
least-G = ((demand2 (sheet_g worst) (tested (sheet_g worst) refl) max_states largest).settled refl).price

-- Sheet H was refused when every junction had to have a check; sheet A was accepted then, and keeps what it had.
pub then-H : (checked_refusal max_states sheet_h max_states largest ≡ 4) × (refusal sheet_h max_states largest ≡ 0)
unfolding computing
then-H = (refl, refl)

pub withdrawn-A : Withdrawn max_states sheet_a
unfolding computing
withdrawn-A = checks-withdrawn max_states (omega arith) sheet_a (tested sheet_a refl) refl

-- Sheet J was refused when every junction was plain; sheet A was accepted then, and keeps what it had. J without the field of check 1 of
-- junction 0, nine bytes at 29, is refused 10.
pub plain-J : (plain_refusal max_states (sheet_j 2) max_states largest ≡ 4) × (refusal (sheet_j 2) max_states largest ≡ 0)
unfolding computing
plain-J = (refl, refl)

pub added-A : FormAdded max_states sheet_a
unfolding computing
added-A = form-added max_states sheet_a (λ _. refl) (omega arith) (tested sheet_a refl)

pub accepted-J : Accepted (sheet_j 2)
unfolding computing
accepted-J = record { bytes = tested (sheet_j 2) refl; yes = refl }

pub less-J : without_check (sheet_j 2) 0 1 ≡ take 29 (sheet_j 2) ++ drop 38 (sheet_j 2)
unfolding computing actions_of form_of action_place node_place offset action_offset
less-J = refl

pub loss-J : refusal (without_check (sheet_j 2) 0 1) max_states largest ≡ 10
unfolding computing
loss-J =
    let checks = action 200 (1 ∷ 3 ∷ []) ∷ action 500 (3 ∷ []) ∷ [] in
    loss-refused (sheet_j 2) accepted-J 0 1 2 checks refl (lit< tt) max_states largest (omega arith)

-- A limit of 4 accepts sheet A, which has as many stages, and one of 3 refuses it; so a raised limit speaks of it
pub limits-A : (refusal_under 3 sheet_a 3 largest ≡ 3) × (refusal_under 4 sheet_a 4 largest ≡ 0)
unfolding computing
limits-A = (refl, refl)

pub raised-A : Raised 4 1024 sheet_a × Raised 1024 max_states sheet_a
unfolding computing
raised-A = (limit-raised (omega arith) sheet_a refl, accepted-before sheet_a refl)
