use Rattle.std.proofs.Common.{◌≡◌, ◌∙◌}
use Rattle.model.specs.Problem.{cell_of}
use Rattle.model.specs.Read.{cells_of}
use Rattle.questions.proofs.Stepping.{Nth, walk-nth}
use Rattle.questions.proofs.states.chosen_action.Goals as goal
use Rattle.questions.proofs.states.chosen_action.Goals.{After-nth, After-unwrap}

nth : (c : After-nth) → Nth c.args.sheet.now c.args.state (cell_of (cells_of c.args.sheet.now) c.args.state).chosen c.nth.result
nth c =
    let chosen : c.from-chosen.result ≡ (cell_of (cells_of c.args.sheet.now) c.args.state).chosen =
    c.from-chosen.ensures ∙ c.chosen.ensures in
    walk-nth _ c.actions.ensures.0 c.actions.ensures.1 c.actions.ensures.2 (rw chosen at c.nth.ensures.ran) c.requires.state_in_bounds

pub unwrap-requires : goal.unwrap-requires
unwrap-requires c = rw (nth c).some

-- it is the one that `unwrap` gives
same : (c : After-unwrap) → (n : Nth c.args.sheet.now c.args.state (cell_of (cells_of c.args.sheet.now) c.args.state).chosen c.nth.result) →
    n.action ≡ c.unwrap.result
same c n = let some = n.some in cc

pub returns-clause-is : goal.returns-clause-is
returns-clause-is c =
    let n = nth (goal.at.returns-clause-is c).After-nth in rw (same c n) at n.is

pub returns-clause-place : goal.returns-clause-place
returns-clause-place c =
    let n = nth (goal.at.returns-clause-place c).After-nth in (rw (same c n) at n.bytes, rw (same c n) at n.at)
