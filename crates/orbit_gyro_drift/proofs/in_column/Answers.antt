-- `orbit_gyro_drift::in_column` meets its contract. Assumes nothing.
use Rattle.orbit_gyro_drift.proofs.Columns.{drift_is}
use Rattle.orbit_gyro_drift.proofs.in_column.Goals as goal

pub returns : goal.returns
returns c = drift_is c.args.column.now _ _ _ _ c.value.ensures c.value-2.ensures c.value-3.ensures
