-- `pcd_frames::progress::put_line` meets its contract: one part behind the other. Assumes nothing.
use Rattle.command.proofs.TextLaws.{adds_append}
use Rattle.pcd_frames.proofs.progress.put_line.Goals as goal

pub returns : goal.returns
returns c =
    let to-paid = adds_append c.put_field-taken.ensures c.put_field-paid.ensures in
    adds_append (adds_append to-paid c.put_field-rated.ensures) c.put.ensures
