-- `relock_crossing::relock` meets its contract: it hands over what the step leaves, or leaves all as it was. Assumes nothing.
use Rattle.relock_crossing.proofs.RelockCrossed.{step_accepted, step_refused}
use Rattle.relock_crossing.proofs.relock.Goals as goal

pub returns-in-Ok : goal.returns-in-Ok
returns-in-Ok c =
    step_accepted _ _ _ _ _ _ _ c.in-Ok.ensures _ _ _ c.flag-awaits.ensures c.flag-complete.ensures c.flag-more.ensures

pub returns-in-Err : goal.returns-in-Err
returns-in-Err c = rw c.number.ensures (step_refused _ _ _ _ _ _ _ c.in-Err.ensures)
