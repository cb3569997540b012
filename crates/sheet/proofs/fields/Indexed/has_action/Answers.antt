use Rattle.std.proofs.Common.{◌∙◌}
use Rattle.sheet.proofs.Laws.{seen, some-action}
use Rattle.sheet.proofs.fields.Indexed.has_action.Goals as goal

pub returns : goal.returns
returns c =
    rw c.self.view_is at c.action_here.ensures ∙
    some-action (seen c.self.view_is c.self.invariant) _ c.requires.below c.requires.tag _ c.first_action.ensures.0
