-- Histories of work (S6.12): one after another, and that raises count their changes.
use Prim.Native.Nat.{◌+◌}
use mathlib.Core.Path.{◌≡◌}
use mathlib.Core.List.{List, ◌++◌}
use native.Mathlib.Omega.{arith}
use lib.ListN.{length}
use Rattle.model.specs.Problem.{Problem}
use Rattle.model.specs.Ldfs.{Search}
use Rattle.model.specs.History.{Change, History, nothing, raise, mark}

pub history-then : {p : Problem} {w w' w'' : Search} {first second : List Change} →
    History p w first w' → History p w' second w'' → History p w (first ++ second) w''
history-then nothing g = g
history-then (raise s x state is_open is up h) g = raise s x state is_open is up (history-then h g)
history-then (mark s i state is_open h) g = mark s i state is_open (history-then h g)

-- every change counts as one raise, and nothing else counts
pub history-counts : {p : Problem} {w w' : Search} {changes : List Change} →
    History p w changes w' → w'.raises ≡ w.raises + length changes
history-counts nothing = omega arith
history-counts (raise s x state is_open is up h) = omega (arith, history-counts h)
history-counts (mark s i state is_open h) = history-counts h
