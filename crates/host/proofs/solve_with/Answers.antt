-- The work, and then the host's table.
use mathlib.Core.Path.{◌≡◌}
use native.Mathlib.Omega.{arith}
use lib.ListN.{length}
use Rattle.host.proofs.Hosted.{worked-on}
use Rattle.host.proofs.solve_with.Goals as goal

pub returns : goal.returns
returns g c =
    let made = c.solve_zeroed-a.ensures in
    let long : length c.solve_zeroed-a.new.table ≡ g.row.N = omega arith in
    worked-on c.requires c.args.budget (made.answer, (made.sheet, made.table)) long c.put_table.ensures
