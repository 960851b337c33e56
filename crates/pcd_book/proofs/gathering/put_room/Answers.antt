-- `pcd_book::gathering::put_room` meets its contract: one part behind the other. Assumes nothing.
use Rattle.command.proofs.TextLaws.{adds_append}
use Rattle.pcd_book.proofs.gathering.put_room.Goals as goal

pub returns : goal.returns
returns c = adds_append c.put_field-told.ensures c.put.ensures
