-- `word72_csv::put_refused_frame` meets its contract: one part behind the other. Assumes nothing.
use Rattle.command.proofs.TextLaws.{adds_append}
use Rattle.word72_csv.proofs.put_refused_frame.Goals as goal

pub returns : goal.returns
returns c =
    adds_append (adds_append c.put_number-counted.ensures c.put-none.ensures) c.put_refused.ensures
