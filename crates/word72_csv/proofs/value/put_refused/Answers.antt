-- `word72_csv::value::put_refused` meets its contract: one part behind the other. Assumes nothing.
use Rattle.command.proofs.TextLaws.{adds_append}
use Rattle.word72_csv.proofs.value.put_refused.Goals as goal

pub returns : goal.returns
returns c =
    let field = rw c.from.ensures at c.put_field-refused.ensures in
    rw (← c.number-number.ensures)
    (adds_append (adds_append (adds_append field c.put-quoted.ensures) c.put_words-told.ensures) c.put.ensures)
