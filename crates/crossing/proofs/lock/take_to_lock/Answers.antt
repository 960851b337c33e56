-- `crossing::take_to_lock` meets its contract: what the call in place leaves, or all as it was. Assumes nothing.
use Rattle.crossing.proofs.LockCrossed.{lock_accepted, lock_refused}
use Rattle.crossing.proofs.lock.take_to_lock.Goals as goal

pub returns-in-Ok : goal.returns-in-Ok
returns-in-Ok c = lock_accepted _ _ _ _ _ _ c.in-Ok.ensures _ _ c.flag-complete.ensures c.flag-locked.ensures

pub returns-in-Err : goal.returns-in-Err
returns-in-Err c = rw c.number.ensures (lock_refused _ _ _ _ _ _ c.in-Err.ensures)
