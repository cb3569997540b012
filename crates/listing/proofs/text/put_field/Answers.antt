use Rattle.sheet.proofs.Putting.{appended-behind}
use Rattle.listing.proofs.Writing.{number-room, field_end}
use Rattle.listing.proofs.text.put_field.Goals as goal

pub put_number-requires : goal.put_number-requires
put_number-requires c = number-room _ c.bytes.ensures c.ranges.x.fits c.requires

pub returns : goal.returns
returns c =
    let text = appended-behind c.bytes.ensures c.put_number.ensures in record {
      appended = text;
      upper_bound = field_end c.args.word.now _ text c.ranges.x.fits;
    }
