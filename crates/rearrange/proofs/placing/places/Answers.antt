use mathlib.Core.Path.{◌∙◌}
use native.Mathlib.Omega.{arith}
use Rattle.rearrange.proofs.Places.{places-are}
use Rattle.rearrange.proofs.placing.places.Goals as goal

pub returns : goal.returns
returns c =
    let (long, wide, _) = c.requires.n_in_bounds in
    let less = c.one_less.ensures.one_less in
    let none = c.one_less.ensures.by_index in
    let same = c.one_less.ensures.len_unchanged in
    let (is, back) = places-are c.mark_places.ensures long _ less none (omega (arith, same, c.mark_places.ensures.same, wide)) in record {
      value = is;
      after = back;
      len_unchanged = same ∙ c.mark_places.ensures.same;
    }
