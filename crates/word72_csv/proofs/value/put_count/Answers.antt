-- `word72_csv::value::put_count` meets its contract: one part behind the other. Assumes nothing.
use Rattle.command.proofs.TextLaws.{adds_append}
use Rattle.word72_csv.proofs.value.put_count.Goals as goal

pub returns : goal.returns
returns c = adds_append c.put_number_field-valued.ensures c.put_no_more.ensures
