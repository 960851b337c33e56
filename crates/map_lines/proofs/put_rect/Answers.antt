-- `map_lines::put_rect` meets its contract: one part behind the other. Assumes nothing.
use Rattle.command.proofs.TextLaws.{adds_append}
use Rattle.map_lines.proofs.put_rect.Goals as goal

pub returns : goal.returns
returns c =
    adds_append (adds_append (adds_append c.put_place-placed.ensures c.put_field-wide.ensures) c.put_field-classed.ensures) c.put.ensures
