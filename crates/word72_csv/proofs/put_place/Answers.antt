-- `word72_csv::put_place` meets its contract: one part behind the other. Assumes nothing.
use Rattle.command.proofs.TextLaws.{adds_append}
use Rattle.word72_csv.proofs.put_place.Goals as goal

pub returns : goal.returns
returns c =
    let to-kind = adds_append c.put_number-a.ensures c.put_number_field-b.ensures in
    let to_number = adds_append to-kind c.put_number_field-c.ensures in
    adds_append (adds_append to_number c.put_number_field-d.ensures) c.put_number_field.ensures
