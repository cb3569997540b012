-- Bytes written into a buffer piece by piece, as the contracts on a page say it.
use Rattle.std.specs.Prelude.{ℕ, ◌+◌, ◌≤◌, ◌≡◌, List, length}
use Rattle.layout.specs.Placed.{Wrote}
use Rattle.sheet.specs.declared.put.Page.{Page}

-- there is room for so many bytes behind what is written
abbrev pub HasRoom : Page → ℕ → Type 0
HasRoom page n = page.end + n ≤ length page.out.now

-- a text was written into the same buffer, behind what was there
pub record Appended (old new : Page) (text : List ℕ) : Type 0 where
  pub same : new.out.ghost_name ≡ old.out.ghost_name
  pub wrote : Wrote old.out.now new.out.now old.end new.end text
