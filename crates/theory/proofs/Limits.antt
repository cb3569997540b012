-- S8.12: what a larger limit of stages keeps. A call gives the same under two limits, and with two tables, where questions 1 and 3 are
-- answered alike.
use Prim.Native.Nat.{ℕ, zero, suc, ◌+◌, ◌-◌, ◌≤◌}
use mathlib.Core.Path.{◌≡◌, refl, sym, ◌∙◌}
use mathlib.Core.Bool.{true}
use mathlib.Core.Logic.{◌⊎◌, inl, inr}
use mathlib.Core.List.{List, ◌++◌, append_assoc}
use native.Mathlib.Omega.{arith}
use borrow.Author.Tests.{le-leb}
use lib.ListN.{length, replicate, replicate-append-replicate}
use Rattle.model.specs.Problem.{Problem, states}
use Rattle.model.specs.Format.{head_tag}
use Rattle.model.specs.Read.{problem_of}
use Rattle.model.specs.Limits.{max_states}
use Rattle.model.specs.Questions.{question1, question3, questions_under, refusal_under, accepted_under}
use Rattle.model.specs.Report.{on_refusal, answer_under, bytes_under, index_table, refused_table, table_under}
use Rattle.model.specs.Demands.{Raised}
use Rattle.model.proofs.QuestionLaws.{none-no}
use Rattle.layout.proofs.Heads.{head-raised}
use Rattle.layout.proofs.Index.{states-within}
use Rattle.theory.proofs.LimitLaws.{sheet-raised, accepted-yes, yes-accepted, refusal-same, room-yes}

-- zeros, and zeros behind them
zeros-longer : (m n : ℕ) → m ≤ n → replicate {A = ℕ} n 0 ≡ replicate m 0 ++ replicate (n - m) 0
zeros-longer m n le = let z : m + (n - m) ≡ n = omega arith in sym (rw (replicate-append-replicate, z))

-- an index table with zeros behind it is a longer one
index-longer : (p : Problem) (m n : ℕ) → states p ≤ m → m ≤ n → index_table p n ≡ index_table p m ++ replicate (n - m) 0
unfolding index_table
index-longer p m n few le =
    let z : n - states p ≡ m - states p + (n - m) = omega arith in
    rw (append_assoc, replicate-append-replicate, z)

-- where nothing is refused, the stages are within the limit
few-states : (limit : ℕ) (s : List ℕ) (entries budget : ℕ) → refusal_under limit s entries budget ≡ 0 →
    states (problem_of s) ≤ limit
unfolding refusal_under
few-states limit s entries budget e =
    states-within head_tag s (none-no (questions_under limit s entries budget) refl e).1.1.0

-- Two limits, each with a table that question 1 does not refuse, of a sheet for which question 3 has the same answer.
module _ (a b : ℕ) (s : List ℕ) (three : question3 head_tag a s ≡ question3 head_tag b s) where
  room-same : (entries entries' : ℕ) → a ≤ entries → b ≤ entries' → question1 a entries ≡ question1 b entries'
  unfolding question1
  room-same entries entries' h h' = rw (le-leb a entries h, le-leb b entries' h')

  module _ (entries entries' budget : ℕ) (h : a ≤ entries) (h' : b ≤ entries') where
    same : refusal_under b s entries' budget ≡ refusal_under a s entries budget
    same = sym (refusal-same a b s entries entries' budget (room-same entries entries' h h') three)

    pub answer-same : answer_under b s entries' budget ≡ answer_under a s entries budget
    unfolding answer_under
    answer-same = rw same

    pub bytes_same : bytes_under b s entries' budget ≡ bytes_under a s entries budget
    unfolding bytes_under
    bytes_same = rw same

  pub table-longer : (t t' : List ℕ) (budget : ℕ) → a ≤ length t → b ≤ length t' → length t ≤ length t' →
      table_under b s t' budget ≡ table_under a s t budget ++ replicate (length t' - length t) 0
  unfolding table_under on_refusal refused_table
  table-longer t t' budget h h' le =
      rw (same (length t) (length t') budget h h')
      (go (refusal_under a s (length t) budget) refl (room-yes a s (length t) budget h))
    where
      go : (k : ℕ) → refusal_under a s (length t) budget ≡ k → (k ≡ 0) ⊎ (2 ≤ k) →
          on_refusal k (λ _. index_table (problem_of s) (length t')) (refused_table t') ≡
          on_refusal k (λ _. index_table (problem_of s) (length t)) (refused_table t) ++ replicate (length t' - length t) 0
      go zero e _ =
          let few = few-states a s (length t) budget e in
          index-longer (problem_of s) (length t) (length t') (omega arith) le
      go (suc zero) e (inl z) = absurd (omega arith)
      go (suc zero) e (inr l) = absurd (omega arith)
      go (suc (suc k)) e _ = zeros-longer (length t) (length t') le

-- whatever a limit accepts, a larger one accepts, with the same answer and the same bytes after
pub limit-raised : {small large : ℕ} → small ≤ large → (s : List ℕ) → accepted_under small s ≡ true → Raised small large s
limit-raised {small} {large} le s acc =
    let yes = accepted-yes small s acc in
    let three : question3 head_tag small s ≡ question3 head_tag large s = yes.three ∙ sym (head-raised head_tag le s yes.three) in
    record {
      still_accepted = yes-accepted large s (sheet-raised le s yes);
      same_answer = answer-same small large s three;
      same_bytes = bytes_same small large s three;
      same_table = table-longer small large s three;
    }

-- the limit was 1,024 before it became `max_states`: sheets accepted then keep bytes and answers
pub accepted-before : (s : List ℕ) → accepted_under 1024 s ≡ true → Raised 1024 max_states s
accepted-before = limit-raised (omega arith)
