-- `crossing::take` meets its contract: what the call in place leaves, or all as it was. Assumes nothing.
use Rattle.crossing.proofs.Crossed.{accepted-crossed, refused-crossed}
use Rattle.crossing.proofs.take.Goals as goal

pub returns-in-Ok : goal.returns-in-Ok
returns-in-Ok c = accepted-crossed _ _ _ _ _ _ c.in-Ok.ensures _ c.flag-complete.ensures

pub returns-in-Err : goal.returns-in-Err
returns-in-Err c = rw c.number.ensures (refused-crossed _ _ _ _ _ _ c.in-Err.ensures)
