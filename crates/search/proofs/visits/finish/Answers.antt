-- The update, and then the mark.
use Rattle.model.specs.Read.{problem_of}
use Rattle.search.specs.Opens.{ValueAt}
use Rattle.search.proofs.Updates.{settles, no_room}
use Rattle.search.proofs.visits.finish.Goals as goal
use Rattle.search.proofs.visits.finish.Goals.{After-value-value}

-- the value that is updated
value-at : (c : After-value-value) →
    ValueAt c.args.sheet.now c.args.table.now (problem_of c.args.sheet.now) c.args.state c.value_place-at.result c.value-value.result
value-at c =
    let w = c.requires.within in
    let place = rw c.new-here.ensures at c.value_place-at.ensures.0 in
    record { sheet = w.sheet; below = w.below; place = place; is = rw c.new-here.ensures at c.value-value.ensures }

pub returns-in_default : goal.returns-in_default
returns-in_default c =
    let g = value-at (goal.at.returns-in_default c).After-value-value in
    no_room g c.requires.state_value _ _ _ (c.in_default.ensures _ _ _ g)

pub returns : goal.returns
returns c =
    let g = value-at (goal.at.returns c).After-value-value in
    settles g c.requires.state_value _ _ _ (c.in-Some.ensures _ _ _ g) c.mark_end.ensures
