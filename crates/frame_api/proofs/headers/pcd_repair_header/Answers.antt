-- `frame_api::headers::pcd_repair_header` meets its contract: what crosses is the answer's. Assumes nothing.
use native.Mathlib.Omega.{arith}
use Rattle.frame_api.proofs.HeaderCrossed.{repair_crossed}
use Rattle.frame_api.proofs.headers.pcd_repair_header.Goals as goal

pub returns : goal.returns
returns c = repair_crossed c.repair.ensures (grind arith) (grind arith)
