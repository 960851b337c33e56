-- `frame_api::pointer::pcd_previous_pointer` meets its contract: what crosses is the answer's. Assumes nothing.
use Rattle.frame_api.proofs.PointerCrossed.{pointer_crossed}
use Rattle.frame_api.proofs.pointer.pcd_previous_pointer.Goals as goal

pub returns : goal.returns
returns c = pointer_crossed c.previous.ensures.answers c.pass.ensures.code c.pass.ensures.out
