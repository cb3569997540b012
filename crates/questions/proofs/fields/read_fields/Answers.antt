use Prim.Native.Nat.{◌<◌}
use mathlib.Core.Path.{◌≡◌, ◌∙◌, sym}
use mathlib.Core.Bool.{false}
use mathlib.Core.Logic.{inl, inr}
use native.Mathlib.Omega.{arith}
use lib.ListN.{length, get_or, take, drop, length-take}
use borrow.Author.Tests.{eq-eqb, ne_eqb}
use Rattle.std.proofs.Common.{None}
use Rattle.model.proofs.TestLaws.{never}
use Rattle.model.specs.Tests.{also}
use Rattle.model.specs.Read.{form_read, nodes_good}
use Rattle.model.specs.Limits.{max_actions}
use Rattle.model.specs.Questions.{count_is}
use Rattle.questions.proofs.Reading.{Turn, Read, reading_begins, reading-ends, terminal-read, terminal-out, header-fits, header-out}
use Rattle.questions.proofs.Reading.{reading-actions-begins, decision-read, action-out, action-read}
use Rattle.questions.proofs.Asking.{no-4, no-10, read-yes}
use Rattle.questions.proofs.fields.read_fields.Goals as goal
use Rattle.questions.proofs.fields.read_fields.Goals.{After-byte_at, After-loop-entry, Else-byte_at-eq-TERMINAL_TAG}
use Rattle.questions.proofs.fields.read_fields.Goals.{then-counts, else-counts}
use Rattle.questions.proofs.fields.read_fields.Goals.{then-loop-entry-test+then-byte_at-eq-TERMINAL_TAG+then-not-field_fits}
use Rattle.questions.proofs.fields.read_fields.Goals.{then-loop-entry-test+else-byte_at-eq-TERMINAL_TAG+in_default}
use Rattle.questions.proofs.fields.read_fields.Goals.{}
use Rattle.questions.proofs.fields.read_fields.Goals.{then-loop-entry-test+else-byte_at-eq-TERMINAL_TAG+in-Some+then-loop-entry-2-test+then-n-eq-MAX_ACTIONS}
use Rattle.questions.proofs.fields.read_fields.Goals.{}
use Rattle.questions.proofs.fields.read_fields.Goals.{then-loop-entry-test+else-byte_at-eq-TERMINAL_TAG+in-Some+then-loop-entry-2-test+else-n-eq-MAX_ACTIONS+in_default-action_length}
use Rattle.questions.proofs.fields.read_fields.Goals.{else-loop-entry-test+else-at-s}

-- a turn of the loop over states
turn : (c : After-byte_at) → let L = c.loop-entry in Turn c.args.s.now c.args.states L.entry-items L.at L.entry-index L.counts
turn c =
    let long : length c.loop-entry.entry-items ≡ c.args.states = omega (arith, length-take c.args.states c.args.table.now, c.requires) in
    record { staging = c.loop-entry.invariant; below = omega (arith, long); long = long }

-- the state is not a terminal
no-terminal : (c : Else-byte_at-eq-TERMINAL_TAG) → get_or c.args.s.now c.loop-entry.at 0 ≡ 2 → ⊥
no-terminal c e = c.if-byte_at-eq-TERMINAL_TAG.false (c.byte_at.ensures ∙ e)

pub loop-entry-init : goal.loop-entry-init
loop-entry-init c = reading_begins c.args.s.now _ c.args.states c.requires.1

pub loop-entry-preserved-then-byte_at-eq-TERMINAL_TAG : goal.loop-entry-preserved-then-byte_at-eq-TERMINAL_TAG
loop-entry-preserved-then-byte_at-eq-TERMINAL_TAG c =
    let two = sym c.byte_at.ensures ∙ c.if-byte_at-eq-TERMINAL_TAG.true in
    terminal-read (turn (goal.at.loop-entry-preserved-then-byte_at-eq-TERMINAL_TAG c).After-byte_at) two (sym c.if-not-field_fits.ensures)

pub loop-entry-2-init : goal.loop-entry-2-init
loop-entry-2-init c =
    let at = goal.at.loop-entry-2-init c in
    reading-actions-begins (turn at.After-byte_at) (no-terminal at.Else-byte_at-eq-TERMINAL_TAG) _ c.in-Some.ensures.value

pub loop-entry-2-preserved : goal.loop-entry-2-preserved
loop-entry-2-preserved c =
    let few : c.loop-entry-2.n < max_actions = omega (arith, c.loop-entry-2.invariant.upto, c.if-n-eq-MAX_ACTIONS.false) in
    let here = sym c.byte_at-in-loop-entry-2.ensures ∙ c.loop-entry-2-test.true in
    action-read c.loop-entry-2.invariant few here c.in-Some-action_length.ensures.value

pub count_right-counts-requires-clause-s_value : goal.count_right-counts-requires-clause-s_value
count_right-counts-requires-clause-s_value c = (header-fits _ _ c.in-Some.ensures.value).0

pub loop-entry-preserved : goal.loop-entry-preserved
unfolding also
loop-entry-preserved c =
    let form = form_read (drop c.loop-entry.at c.args.s.now) in
    let right : c.if-counts.counts ≡ also c.loop-entry.counts (λ _. count_is form c.loop-entry-2.n) =
    elim c.if-counts.branch [
      | then-counts w ↦ rw w.if-counts.true (w.counts-is ∙ w.count_right-counts.ensures)
      | else-counts w ↦ rw w.if-counts.false (w.counts-is ∙ w.if-counts.false)
    ] in
    let at = goal.at.loop-entry-preserved c in
    rw right (
    decision-read (turn at.After-byte_at) (no-terminal at.Else-byte_at-eq-TERMINAL_TAG) _ c.in-Some.ensures.value c.loop-entry-2.invariant
    (λ e. c.loop-entry-2-test.false (c.byte_at-in-loop-entry-2.ensures ∙ e))
    )

-- all states are read
all-read : (c : After-loop-entry) → Read c.args.s.now c.args.states c.loop-entry.entry-items c.loop-entry.at c.loop-entry.counts
all-read c =
    let long : length c.loop-entry.entry-items ≡ c.args.states = omega (arith, length-take c.args.states c.args.table.now, c.requires) in
    reading-ends c.loop-entry.invariant long (omega (arith, long))

pub returns-then-counts-2 : goal.returns-then-counts-2
returns-then-counts-2 c =
    let read = all-read (goal.at.returns-then-counts-2 c).After-loop-entry in
    let good = sym read.in_place ∙ eq-eqb _ _ c.if-at-s.true in record {
      value = read-yes _ _ good (sym read.counts ∙ c.if-counts-2.true);
      table_after = λ z. rw read.table;
    }

pub returns-else-counts-2 : goal.returns-else-counts-2
returns-else-counts-2 c =
    let read = all-read (goal.at.returns-else-counts-2 c).After-loop-entry in
    let good = sym read.in_place ∙ eq-eqb _ _ c.if-at-s.true in record {
      value = rw c.into.ensures (no-10 _ _ good (sym read.counts ∙ c.if-counts-2.false));
      table_after = λ z. rw read.table;
    }

pub returns : goal.returns
returns c =
    let s = c.args.s.now in
    let L = c.loop-entry in
    let long : length L.entry-items ≡ c.args.states = omega (arith, length-take c.args.states c.args.table.now, c.requires) in
    let turned : L.entry-index < length (take c.args.states c.args.table.now) →
    Turn s c.args.states L.entry-items L.at L.entry-index L.counts =
    λ lt. record { staging = L.invariant; below = omega (arith, long); long = long } in
    let bad : nodes_good c.args.states (drop 8 s) ≡ false =
    elim c.loop-entry-test.branch [
      | then-loop-entry-test+then-byte_at-eq-TERMINAL_TAG+then-not-field_fits w ↦
          terminal-out (turned w.loop-entry-test.true) (sym w.byte_at.ensures ∙ w.if-byte_at-eq-TERMINAL_TAG.true)
          (sym w.field_fits.ensures ∙ w.if-not-field_fits.true)
      | then-loop-entry-test+else-byte_at-eq-TERMINAL_TAG+in_default w ↦
          let none : w.header_size.result ≡ None = cc in
          header-out (turned w.loop-entry-test.true) (λ e. w.if-byte_at-eq-TERMINAL_TAG.false (w.byte_at.ensures ∙ e))
          (sym none ∙ w.header_size.ensures.value)
      | then-loop-entry-test+else-byte_at-eq-TERMINAL_TAG+in-Some+then-loop-entry-2-test+then-n-eq-MAX_ACTIONS w ↦
          action-out (turned w.loop-entry-test.true) (λ e. w.if-byte_at-eq-TERMINAL_TAG.false (w.byte_at.ensures ∙ e)) _
          w.in-Some.ensures.value w.loop-entry-2.invariant (sym w.byte_at-in-loop-entry-2.ensures ∙ w.loop-entry-2-test.true)
          (inl w.if-n-eq-MAX_ACTIONS.true)
      | then-loop-entry-test+else-byte_at-eq-TERMINAL_TAG+in-Some+then-loop-entry-2-test+else-n-eq-MAX_ACTIONS+in_default-action_length w ↦
          let none : w.action_length.result ≡ None = cc in
          action-out (turned w.loop-entry-test.true) (λ e. w.if-byte_at-eq-TERMINAL_TAG.false (w.byte_at.ensures ∙ e)) _
          w.in-Some.ensures.value w.loop-entry-2.invariant (sym w.byte_at-in-loop-entry-2.ensures ∙ w.loop-entry-2-test.true)
          (inr (sym none ∙ w.action_length.ensures.value))
      | else-loop-entry-test+else-at-s w ↦
          let end : L.entry-index ≡ c.args.states =
          omega (arith, long, length-take c.args.states c.args.table.now, w.loop-entry-test.false) in
          sym (reading-ends L.invariant long end).in_place ∙ ne_eqb _ _ w.if-at-s.false
    ] in record {
      value = rw c.into-2.ensures (no-4 _ _ bad);
      table_after = λ z. never (sym bad ∙ z);
    }
