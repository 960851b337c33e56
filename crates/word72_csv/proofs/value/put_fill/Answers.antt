-- `word72_csv::value::put_fill` meets its contract: one part behind the other. Assumes nothing.
use Rattle.command.proofs.TextLaws.{adds_append}
use Rattle.word72_csv.proofs.value.put_fill.Goals as goal

pub returns : goal.returns
returns c =
    adds_append (adds_append c.put-begun.ensures c.put_hex-valued.ensures) c.put_no_more.ensures
