-- The loop carries what `Passing` says. The measure is what is left of the budget: a pass that fails has raised something.
use Prim.Native.Nat.{◌-◌}
use Rattle.model.specs.Read.{problem_of}
use Rattle.search.proofs.Passing.{Passing}
use Rattle.search.proofs.passes.work.Given as goal

-- The loop carries what `Passing` says.
abbrev pub invariant-loop-raises : goal.invariant-loop-raises
invariant-loop-raises l =
    Passing l.table (problem_of l.initial.sheet) l.budget l.initial.sheet l.sheet l.begun l.raises

-- What is left of the budget: a pass that fails has raised something.
abbrev pub decreases-loop-raises : goal.decreases-loop-raises
decreases-loop-raises l = l.budget - l.raises
