-- A state's line, by what stands at it.
use Prim.Native.Nat.{ℕ, ◌<◌}
use mathlib.Core.Path.{◌≡◌, sym, ◌∙◌}
use mathlib.Core.Bool.{Bool, true, false}
use mathlib.Core.List.{List, ◌++◌}
use borrow.Author.Tests.{eqb-true, eqb-false}
use lib.Dec.{eqb}
use Rattle.model.specs.Problem.{Cell, states, node_at}
use Rattle.model.specs.Format.{terminal_tag, tag_of}
use Rattle.model.specs.Read.{problem_of}
use Rattle.sheet.specs.Sheet.{IsTerminal, IsDecision}
use Rattle.sheet.proofs.Laws.{is-terminal, is-decision}
use Rattle.listing.specs.Text.{ascii}
use Rattle.listing.specs.Listing.{field, choice_of, line_end}
use Rattle.sheet.specs.Put.{Appended}
use Rattle.sheet.specs.declared.put.Page.{Page}

-- a state by its tag
module _ {s : List ℕ} {i : ℕ} (lt : i < states (problem_of s)) {b : Bool}
    (e : b ≡ eqb (tag_of (node_at (problem_of s) i)) terminal_tag) where
  pub terminal-from : b ≡ true → IsTerminal s i
  terminal-from g = record { below = lt; tag = eqb-true _ _ (sym e ∙ g) }

  pub decision-from : b ≡ false → IsDecision s i
  decision-from g = record { below = lt; tag = eqb-false _ _ (sym e ∙ g) }

module _ {s : List ℕ} {i : ℕ} (c : Cell) {p q : Page} where
  pub appended-end : IsTerminal s i → Appended p q (ascii " end") →
      Appended p q (choice_of (node_at (problem_of s) i) c)
  appended-end h w = rw (is-terminal (node_at (problem_of s) i) h.tag) w

  pub appended-check : IsDecision s i → (x : ℕ) → x ≡ c.chosen → Appended p q (field (ascii " check ") x) →
      Appended p q (choice_of (node_at (problem_of s) i) c)
  appended-check h x e w = rw (is-decision (node_at (problem_of s) i) h.tag, ← e) w

module _ {s : List ℕ} {i : ℕ} {p q : Page} where
  pub appended-newline : IsTerminal s i → (x : ℕ) → Appended p q (ascii "\n") →
      Appended p q (line_end (node_at (problem_of s) i) x)
  appended-newline h x w = rw (is-terminal (node_at (problem_of s) i) h.tag) w

  pub appended_by : IsDecision s i → {x y : ℕ} → x ≡ y → Appended p q (field (ascii " by ") x ++ ascii "\n") →
      Appended p q (line_end (node_at (problem_of s) i) y)
  appended_by h e w = rw (is-decision (node_at (problem_of s) i) h.tag, ← e) w
