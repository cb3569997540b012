-- The host's function by the lengths of its slices, and the work on an index table of its own.
use Prim.Native.Nat.{ℕ, ◌*◌, ◌<◌, ◌≤◌}
use mathlib.Core.Path.{◌≡◌, refl, sym, ◌∙◌}
use mathlib.Core.List.{List, ◌++◌}
use native.Mathlib.Omega.{arith}
use borrow.Author.Tests.{le-leb, lt-leb}
use lib.ListN.{length, drop, replicate, length-replicate}
use Rattle.model.specs.declared.Answer.{Answer}
use Rattle.model.specs.Format.{head_tag, be16, states_in}
use Rattle.model.specs.Limits.{max_states}
use Rattle.model.specs.Questions.{refusal}
use Rattle.model.specs.Report.{number, refused, on_refusal, answer_under, bytes_under}
use Rattle.layout.proofs.Heads.{head-same}
use Rattle.theory.proofs.LimitLaws.{room-no}
use Rattle.theory.proofs.Limits.{answer-same, bytes_same, table-longer}
use Rattle.ldfs.specs.Made.{Filled}
use Rattle.ldfs.proofs.Solving.{zeros-solved}
use Rattle.host.specs.Host.{le64, entry_bytes, entries, host_number, host_sheet, host_table, host_result}
use Rattle.host.specs.HostCalls.{Hosted}
use Rattle.host.specs.Served.{filled_up, few_states, Serves, Worked}

-- how many entries serve a sheet: one number for few states, and one for any sheet
pub serves-few : (s t : List ℕ) → max_states ≤ entries t → be16 s states_in ≤ few_states → Serves few_states s t
serves-few s t room few =
    record { most = omega arith; head = head-same head_tag few_states max_states s few (omega arith); room = room }

pub serves-all : (s t : List ℕ) → max_states ≤ entries t → Serves max_states s t
serves-all s t room = record { most = omega arith; head = refl; room = room }

-- what the work on such a table leaves is what a call with the host's table leaves
pub worked-on : {m : ℕ} {s t : List ℕ} → Serves m s t → (budget : ℕ) {a : Answer} {s' w t' : List ℕ} →
    Filled s (replicate m 0) budget a s' w → length w ≡ m →
    t' ≡ entry_bytes (filled_up w (entries t)) ++ drop (4 * entries t) t → Worked s t budget a s' t'
worked-on {m} {s} {t} h budget f long put =
    let n = entries t in
    let zeros-long : length {A = ℕ} (replicate m 0) ≡ m = length-replicate m 0 in
    let whole_long : length {A = ℕ} (replicate n 0) ≡ n = length-replicate n 0 in
    let (answered, (written, filled)) = zeros-solved s budget m h.most f in
    let room = h.room in
    let most = h.most in
    let longer = table-longer m max_states s h.head (replicate m 0) (replicate n 0) budget (omega arith) (omega arith) (omega arith) in
    record {
      answer = answered ∙ rw zeros-long (sym (answer-same m max_states s h.head m n budget (omega arith) room));
      sheet = written ∙ rw zeros-long (sym (bytes_same m max_states s h.head m n budget (omega arith) room));
      table = put ∙ rw (longer, ← filled, zeros-long, whole_long, long);
    }

-- what `put_answer` leaves
abbrev Told : List ℕ → Answer → List ℕ
Told r a = (le64 a.price ++ (le64 a.passes ++ le64 a.raises)) ++ drop 24 r

module _ (s t : List ℕ) (budget : ℕ) (r : List ℕ) where
  pub no_room : length r < 24 → Hosted s t budget r 1 s t r
  unfolding host_number host_sheet host_table host_result
  no_room h = rw (lt-leb 24 (length r) h) (refl, (refl, (refl, refl)))

  module _ (room : 24 ≤ length r) (a : Answer) (r' : List ℕ) (told : r' ≡ Told r a) where
    pub short-table : length t < 4 * max_states → a ≡ refused budget 1 → Hosted s t budget r 1 s t r'
    unfolding host_number host_sheet host_table host_result answer_under bytes_under on_refusal
    short-table h e =
        let few : entries t < max_states = omega arith in
        let no : refusal s (entries t) budget ≡ 1 = room-no max_states s (entries t) budget few in
        rw (le-leb 24 (length r) room, no, lt-leb max_states (entries t) few) (refl, (refl, (refl, told ∙ rw e)))

    pub enough-table : max_states ≤ entries t → (s' t' : List ℕ) (k : ℕ) → Worked s t budget a s' t' →
        k ≡ number a.outcome → Hosted s t budget r k s' t' r'
    unfolding host_number host_sheet host_table host_result
    enough-table enough s' t' k worked e =
        rw (le-leb 24 (length r) room, le-leb max_states (entries t) enough, ← worked.answer, ← worked.sheet)
        (e, (refl, (worked.table, told)))
