-- `pcd_find::answer::put_found` meets its contract: one part behind the other. Assumes nothing.
use Rattle.command.proofs.TextLaws.{adds_append}
use Rattle.pcd_find.proofs.answer.put_found.Goals as goal

pub returns : goal.returns
returns c =
    let to-timed = adds_append c.put_field-placed.ensures c.put_field-timed.ensures in
    adds_append (adds_append to-timed c.put_field-looked.ensures) c.put.ensures
