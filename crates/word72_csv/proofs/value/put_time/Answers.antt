-- `word72_csv::value::put_time` meets its contract: one part behind the other. Assumes nothing.
use Rattle.command.proofs.TextLaws.{adds_append}
use Rattle.word72_csv.proofs.value.put_time.Goals as goal

pub returns : goal.returns
returns c =
    let told = adds_append c.put_number_field-valued.ensures c.put_number_field-crafted.ensures in
    adds_append (adds_append told c.put_clock-timed.ensures) c.put.ensures
