-- `word72_api::word72::pcd_read` meets its contract: a refusal crosses as its number, and leaves what was there. Assumes nothing.
use Rattle.std.proofs.Common.{Err}
use Rattle.word72_api.proofs.WordCrossed.{read-crossed}
use Rattle.word72_api.proofs.word72.pcd_read.Goals as goal

pub returns-in-Err : goal.returns-in-Err
returns-in-Err c = rw c.number.ensures (read-crossed _ _ _ _ (Err _) _ _ c.in-Err.ensures)
