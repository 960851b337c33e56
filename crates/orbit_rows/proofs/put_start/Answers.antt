-- `orbit_rows::put_start` meets its contract: one part behind the other. Assumes nothing.
use mathlib.Core.Path.{sym}
use Rattle.command.proofs.TextLaws.{adds_append}
use Rattle.orbit_rows.proofs.put_start.Goals as goal

pub returns : goal.returns
returns c =
    let numbered = adds_append c.put_number-counted.ensures c.put_number_field-framed.ensures in
    rw (sym c.line.ensures) (adds_append numbered c.put.ensures)
