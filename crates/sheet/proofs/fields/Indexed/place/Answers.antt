use Rattle.std.proofs.Common.{◌≡◌, get_or}
use Rattle.model.specs.Format.{offset}
use Rattle.model.specs.Read.{problem_of}
use Rattle.sheet.proofs.Laws.{seen, nine-room}
use Rattle.sheet.proofs.fields.Indexed.place.Goals as goal

pub returns : goal.returns
returns c =
    let at : get_or c.self.inside.table.now c.args.state 0 ≡ offset (problem_of c.args.self.now) c.args.state =
    (seen c.self.view_is c.self.invariant).table _ c.requires in
    (at, rw at (nine-room (seen c.self.view_is c.self.invariant) _ c.requires))
