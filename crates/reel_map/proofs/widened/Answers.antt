-- `reel_map::widened` meets its contract: a cell has twice as many bytes. Assumes nothing.
use mathlib.Core.Path.{refl}
use native.Mathlib.Omega.{arith}
use Rattle.reel_map.proofs.widened.Goals as goal

pub returns : goal.returns
returns c = (refl, λ h. omega (arith, h, c.sum.ensures (omega (arith, h))))
