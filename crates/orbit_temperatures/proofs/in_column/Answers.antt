-- `orbit_temperatures::in_column` meets its contract. Assumes nothing.
use Rattle.orbit_temperatures.proofs.Columns.{temperatures_clear, temperatures_unclear}
use Rattle.orbit_temperatures.proofs.in_column.Goals as goal

pub returns-then-not-upper_clear : goal.returns-then-not-upper_clear
returns-then-not-upper_clear c =
    temperatures_unclear c.args.column.now _ c.upper_clear.ensures c.if-not-upper_clear.true

pub returns : goal.returns
returns c =
    temperatures_clear c.args.column.now _ _ _ _ _ c.upper_clear.ensures c.if-not-upper_clear.false
    c.celsius.ensures c.celsius-2.ensures c.celsius-3.ensures c.celsius-4.ensures
