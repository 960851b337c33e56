-- `cycle::is_numbered` meets its contract: its tests are the definition's. Assumes nothing.
use Rattle.labelling.specs.Machine.{synced_bytes}
use Rattle.cycle.specs.Cycle.{is_numbered}
use Rattle.cycle.proofs.is_numbered.Goals as goal

pub returns : goal.returns
unfolding is_numbered synced_bytes
returns c = rw c.is_number.ensures
