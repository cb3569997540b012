use mathlib.Core.Path.{refl, ◌∙◌}
use Rattle.model.specs.Problem.{states}
use Rattle.model.specs.Read.{problem_of}
use Rattle.rearrange.proofs.Turning.{new-renumbers, new-numbers, new-turned, new-listed}
use Rattle.rearrange.proofs.put_draft.Goals as goal

pub put_sheet-requires : goal.put_sheet-requires
put_sheet-requires c =
    let count = c.states-n.ensures.number in
    let some = rw count at c.one_less.ensures.one_less in
    let none = rw count at c.one_less.ensures.by_index in record {
      inside = (c.requires.placed.inside, new-renumbers c.requires.placed refl some none);
      sheet_in_bounds = c.requires.rooms.0;
    }

pub returns : goal.returns
returns c =
    let count = c.states-n.ensures.number in
    let some = rw count at c.one_less.ensures.one_less in
    let none = rw count at c.one_less.ensures.by_index in
    let places = c.requires.placed.places in
    let s = c.args.sheet.now in
    let n = states (problem_of s) in
    let old = c.args.old.now in record {
      output_after = c.put_sheet.ensures ∙
          new-turned s n old c.one_less.new.new c.args.output.now places (new-numbers c.requires.placed refl some none);
      list_after = rw count at c.put_list.ensures ∙ new-listed s n old c.args.list.now refl places;
    }
