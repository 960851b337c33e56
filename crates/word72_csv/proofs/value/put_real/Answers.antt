-- `word72_csv::value::put_real` meets its contract: one part behind the other. Assumes nothing.
use Rattle.command.proofs.TextLaws.{adds_append}
use Rattle.word72_csv.proofs.value.put_real.Goals as goal

pub returns : goal.returns
returns c =
    adds_append (adds_append c.put_byte-begun.ensures c.put_double-valued.ensures) c.put_no_more.ensures
