-- `frame_api::pointer::pcd_pointer_distance` meets its contract: what crosses is the answer's. Assumes nothing.
use Rattle.frame_api.proofs.PointerCrossed.{pointer_crossed}
use Rattle.frame_api.proofs.pointer.pcd_pointer_distance.Goals as goal

pub returns : goal.returns
returns c = pointer_crossed c.distance.ensures.answers c.pass.ensures.code c.pass.ensures.out
