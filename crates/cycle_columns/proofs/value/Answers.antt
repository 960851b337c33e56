-- `cycle_columns::value` meets its contract. Assumes nothing.
use Rattle.cycle_columns.proofs.value.Goals as goal

pub returns : goal.returns
returns c = rw c.count32.ensures at c.scaled.ensures
