use mathlib.Core.Path.{ap, ◌∙◌, sym}
use native.Mathlib.Omega.{arith}
use Rattle.layout.proofs.Heads.{head-says}
use Rattle.layout.proofs.Index.{states-read}
use Rattle.questions.specs.Verdicts.{verdict}
use Rattle.questions.proofs.Asking.{Headed, too_short, too_long, no-3, fields-are, good-from, table_is, on-ok}
use Rattle.questions.proofs.ask_fields.Goals as goal
use Rattle.questions.proofs.ask_fields.Goals.{After-count_of}
use Rattle.questions.proofs.ask_fields.Goals.{then-sheet-lt-MIN_BYTES-via-then-sheet-lt-MIN_BYTES}
use Rattle.questions.proofs.ask_fields.Goals.{then-sheet-lt-MIN_BYTES-via-else-sheet-lt-MIN_BYTES+then-sheet-gt-MAX_BYTES}

-- the length and the head are right
headed : (c : After-count_of) → Headed c.args.wanted c.args.limit c.args.sheet.now c.count_of.result
headed c = record {
  least = c.if-sheet-lt-MIN_BYTES.false;
  most = c.if-sheet-gt-MAX_BYTES.false;
  head = sym c.if-not-head_in_place.ensures;
  count = c.count_of.ensures.0;
}

pub returns-then-sheet-lt-MIN_BYTES-clause-value : goal.returns-then-sheet-lt-MIN_BYTES-clause-value
returns-then-sheet-lt-MIN_BYTES-clause-value c =
    rw c.into.ensures (elim c.then-sheet-lt-MIN_BYTES.branch [
      | then-sheet-lt-MIN_BYTES-via-then-sheet-lt-MIN_BYTES w ↦
          too_short c.args.wanted c.args.limit c.args.sheet.now w.if-sheet-lt-MIN_BYTES.true
      | then-sheet-lt-MIN_BYTES-via-else-sheet-lt-MIN_BYTES+then-sheet-gt-MAX_BYTES w ↦
          too_long c.args.wanted c.args.limit c.args.sheet.now w.if-sheet-lt-MIN_BYTES.false w.if-sheet-gt-MAX_BYTES.true
    ])

pub returns-then-not-head_in_place-clause-value : goal.returns-then-not-head_in_place-clause-value
returns-then-not-head_in_place-clause-value c =
    rw c.into-then-not-head_in_place.ensures
    (no-3 c.args.wanted c.args.limit c.args.sheet.now c.if-sheet-lt-MIN_BYTES.false c.if-sheet-gt-MAX_BYTES.false
    (sym c.if-not-head_in_place.ensures))

pub read_fields-requires : goal.read_fields-requires
read_fields-requires c =
    let h = head-says c.args.sheet.now (headed c).head in
    (omega (arith, c.count_of.ensures.0, states-read c.args.sheet.now, h.5, c.requires.0), omega arith, c.if-sheet-gt-MAX_BYTES.false)

pub returns-clause-value : goal.returns-clause-value
returns-clause-value c =
    c.read_fields.ensures.value ∙ ap verdict (fields-are (headed (goal.at.returns-clause-value c).After-count_of))

pub returns-clause-table_after : goal.returns-clause-table_after
returns-clause-table_after c =
    let h = headed (goal.at.returns-clause-table_after c).After-count_of in
    on-ok c.read_fields.result
    (λ e. table_is h _ _ (c.read_fields.ensures.table_after (good-from h (sym c.read_fields.ensures.value ∙ e))))
