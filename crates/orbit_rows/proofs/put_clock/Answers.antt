-- `orbit_rows::put_clock` meets its contract: one part behind the other. Assumes nothing.
use Rattle.command.proofs.TextLaws.{adds_append}
use Rattle.orbit_rows.proofs.put_clock.Goals as goal

pub returns : goal.returns
returns c = adds_append c.put_pair-told.ensures c.put_pair.ensures
