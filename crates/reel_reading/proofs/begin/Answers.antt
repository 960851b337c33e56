-- `reel_reading::begin` meets its contract: no call leaves the fresh tally. Assumes nothing.
use mathlib.Core.Path.{refl}
use Rattle.reel_reading.proofs.Laws.{stands_begun, begun-so}
use Rattle.reel_reading.proofs.begin.Goals as goal

pub returns : goal.returns
returns c = (stands_begun _ (begun-so _ c.fresh-begun.ensures.is_fresh) refl refl, refl)
