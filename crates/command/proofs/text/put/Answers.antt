-- `command::text::put` meets its contract: as much as there is room for is put. Assumes nothing.
use Rattle.command.proofs.TextLaws.{adds_part}
use Rattle.command.proofs.text.put.Goals as goal

pub returns : goal.returns
returns c =
    let copied = c.copy_from_slice.ensures in
    adds_part _ _ _ _ _ _ _ c.min-from.ensures c.min-n.ensures copied.after copied.len
