-- `orbit_ephemeris::in_column` meets its contract. Assumes nothing.
use Rattle.orbit_ephemeris.proofs.Columns.{ephemeris_is}
use Rattle.orbit_ephemeris.proofs.in_column.Goals as goal

pub returns : goal.returns
returns c =
    let a = c.args in
    ephemeris_is a.column.now _ a.first _ _ _ _ _ _ c.value.ensures c.value-2.ensures c.value-3.ensures
    c.value-4.ensures c.value-5.ensures c.value-6.ensures
