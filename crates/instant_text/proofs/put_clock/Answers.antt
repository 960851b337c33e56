-- `instant_text::put_clock` meets its contract: one part behind the other. Assumes nothing.
use Rattle.command.proofs.TextLaws.{adds_append}
use Rattle.instant_text.proofs.put_clock.Goals as goal

pub returns : goal.returns
returns c =
    let to-hour = adds_append (adds_append c.put_part-a.ensures c.put_part-b.ensures) c.put_part-c.ensures in
    let to-second = adds_append (adds_append to-hour c.put_part-d.ensures) c.put_part-e.ensures in
    adds_append to-second c.put_part.ensures
