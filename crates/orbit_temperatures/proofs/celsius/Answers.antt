-- `orbit_temperatures::celsius` meets its contract: 12 bits are at most 4,095, so the count is positive. Assumes nothing.
use Rattle.orbit_temperatures.proofs.celsius.Goals as goal

pub returns : goal.returns
returns c = rw c.twelve_bits-dn.ensures.0 at c.scaled.ensures
