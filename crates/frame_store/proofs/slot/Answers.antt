-- `frame_store::slot` meets its contract: the part that `try_slot` answers, and the empty one where that refuses. Assumes nothing.
use Rattle.frame_store.proofs.Promises.{slot-refused}
use Rattle.frame_store.proofs.slot.Goals as goal

pub returns-in-Err : goal.returns-in-Err
returns-in-Err c =
    let a = c.args in
    slot-refused a.area.now a.area.ref_ptr a.bits a.slot c.in-Err.field-0 c.in-Err.ensures
