-- `orbit_rows::put_when` meets its contract: one part behind the other. Assumes nothing.
use Rattle.command.proofs.TextLaws.{adds_append}
use Rattle.orbit_rows.proofs.put_when.Goals as goal

pub returns-in-Some : goal.returns-in-Some
returns-in-Some c =
    rw c.in-Some.is (adds_append (adds_append c.put_date-dated.ensures c.put_clock-timed.ensures) c.put_byte.ensures)
