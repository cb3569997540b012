-- What the contracts of the search say: the bytes and the answer are what the procedure's definition gives.
use Rattle.std.specs.Prelude.{ℕ, ◌≡◌, Bool, true, false, List, Option, Some, None}
use Rattle.model.specs.Problem.{Problem, Cell, states, node_at}
use Rattle.model.specs.Read.{problem_of, cells_of}
use Rattle.model.specs.Format.{actions_of}
use Rattle.model.specs.Ldfs.{Search, Visit, success, failure, halt, try_one, visit, Passes}
use Rattle.sheet.specs.Sheet.{Sheet}
use Rattle.theory.specs.Consistent.{WellFormed, Consistent}
use Rattle.search.specs.declared.visits.Visited.{Visited}
use Rattle.search.specs.declared.visits.Visited.TheVariants.{Success, Failure, Halt}
use Rattle.search.specs.declared.passes.Passes.{Passes as PassesMade}

abbrev pub search : List Cell → ℕ → Search
search cells raises = record { cells = cells; raises = raises }

-- a visit with this answer, which leaves these cells
abbrev pub visit_of : List Cell → Visited → Visit
visit_of cells (Success r) = success (search cells r)
visit_of cells (Failure r) = failure (search cells r)
visit_of cells (Halt r) = halt (search cells r)

-- a visit to state i, with fuel enough
abbrev pub visiting : Problem → ℕ → ℕ → Search → Visit
visiting p budget = visit p budget (states p)

-- action n of decision i tried: it fails where it is abandoned
abbrev pub trying : Problem → ℕ → ℕ → ℕ → Search → Visit
trying p budget i n = try_one p budget (visiting p budget) i (actions_of (node_at p i)) n failure

-- what work may suppose: the problem is well formed, and the cells are consistent
pub record Workable (s : List ℕ) : Type 0 where
  pub formed : WellFormed (problem_of s)
  pub consistent : Consistent (problem_of s) (cells_of s)

-- the bytes s, left of the problem p, and the answer v are the visit o
pub record Did (t : List ℕ) (p : Problem) (s : List ℕ) (v : Visited) (o : Visit) : Type 0 where
  pub sheet : Sheet s t p (cells_of s)
  pub said : visit_of (cells_of s) v ≡ o

-- what follows an update that came after r raises and gave this, and leaves these cells: work stops where it gave none
abbrev pub after_update : List Cell → ℕ → Option ℕ → (Search → Visit) → Visit
after_update cells r (Some r') next = next (search cells r')
after_update cells r None next = halt (search cells r)

-- the bytes s and the answer u are the update o, whatever follows it, after r raises
pub record Stored (t : List ℕ) (p : Problem) (s : List ℕ) (r : ℕ) (u : Option ℕ) (o : (Search → Visit) → Visit) : Type 0 where
  pub sheet : Sheet s t p (cells_of s)
  pub said : (next : Search → Visit) → after_update (cells_of s) r u next ≡ o next

-- how the last pass of a call ended, by whether it succeeded
abbrev pub last_pass : Bool → Search → Visit
last_pass true w = success w
last_pass false w = halt w

-- the bytes s and the answer r are the passes o
pub record DidPasses (t : List ℕ) (p : Problem) (s : List ℕ) (r : PassesMade) (o : Passes) : Type 0 where
  pub sheet : Sheet s t p (cells_of s)
  pub said : record { begun = r.begun; ended = last_pass r.succeeded (search (cells_of s) r.raises) } ≡ o
