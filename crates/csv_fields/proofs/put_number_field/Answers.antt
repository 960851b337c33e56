-- `csv_fields::put_number_field` meets its contract: one part behind the other. Assumes nothing.
use Rattle.command.proofs.TextLaws.{adds_append}
use Rattle.csv_fields.proofs.put_number_field.Goals as goal

pub returns : goal.returns
returns c = adds_append c.put_byte-begun.ensures c.put_number.ensures
