use Rattle.std.proofs.Common.{refl}
use Rattle.sheet.proofs.Laws.{few-actions}
use Rattle.sheet.proofs.fields.Indexed.actions.Goals as goal

pub returns : goal.returns
returns c =
    (c.bytes.ensures.bytes, refl, refl, few-actions c.bytes.ensures.in_place.sheet _ c.requires.below c.requires.tag)
