-- `map_lines::put_legend` meets its contract: one part behind the other. Assumes nothing.
use Rattle.command.proofs.TextLaws.{adds_append}
use Rattle.map_lines.proofs.put_legend.Goals as goal

pub returns : goal.returns
returns c =
    adds_append (adds_append (adds_append c.put_field-placed.ensures c.put_field-classed.ensures) c.put_field-worded.ensures) c.put.ensures
