use Rattle.sheet.proofs.Laws.{seen, value-of}
use Rattle.sheet.proofs.fields.Indexed.value.Goals as goal

pub returns : goal.returns
returns c =
    rw (c.get32.ensures, c.self.view_is, c.value_place.ensures.0) (value-of (seen c.self.view_is c.self.invariant) _ c.requires)
