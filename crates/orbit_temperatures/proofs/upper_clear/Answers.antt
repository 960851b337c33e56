-- `orbit_temperatures::upper_clear` meets its contract: the code joins the definition's tests in the definition's order. Assumes nothing.
use mathlib.Core.Path.{refl}
use Rattle.orbit_temperatures.proofs.upper_clear.Goals as goal

pub returns : goal.returns
returns c = refl
