-- `word72_csv::put_item` meets its contract: one part behind the other, or the frame's refusal. Assumes nothing.
use Rattle.std.proofs.Common.{sym, ◌∙◌}
use Rattle.command.proofs.TextLaws.{adds_append}
use Rattle.word72_csv.proofs.put_item.Goals as goal

pub returns-in-Ok : goal.returns-in-Ok
returns-in-Ok c =
    let item = sym c.describe.ensures.answer ∙ c.in-Ok.is in
    let bytes = c.part-bytes.ensures.contents in
    let named-so-far = adds_append (adds_append c.put_place-placed.ensures c.put_form-formed.ensures) c.put_description-described.ensures in
    rw (item, ← c.read-reading.ensures.answer, ← bytes) (adds_append named-so-far c.put_reading.ensures)

pub returns-in-Err : goal.returns-in-Err
returns-in-Err c = rw (sym c.describe.ensures.answer ∙ c.in-Err.is) c.put_refused_frame.ensures
