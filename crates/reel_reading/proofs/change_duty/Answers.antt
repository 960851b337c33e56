-- `reel_reading::change_duty` meets its contract: the call takes no bytes and pays nothing. Assumes nothing.
use mathlib.Core.Path.{refl}
use Rattle.reel_reading.proofs.Laws.{stands_duty}
use Rattle.reel_reading.proofs.change_duty.Goals as goal

pub returns : goal.returns
returns c =
    (λ a h. stands_duty c.args.reel _ c.args.operator a c.in-Ok.ensures.tally_is refl refl refl refl h, refl)
