-- `frame_api::slots::pcd_store` meets its contract: each arm is a case of the answer. Assumes nothing.
use Rattle.frame_api.proofs.SlotsCrossed.{store_refused, store_taken}
use Rattle.frame_api.proofs.slots.pcd_store.Goals as goal

pub returns-in-Ok : goal.returns-in-Ok
returns-in-Ok c = store_taken _ c.in-Ok.ensures

pub returns-in-Err : goal.returns-in-Err
returns-in-Err c = rw c.number.ensures (store_refused _ c.in-Err.ensures)
