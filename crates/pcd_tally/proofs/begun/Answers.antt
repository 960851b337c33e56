-- `pcd_tally::begun` meets its contract: no call leaves the fresh tally. Assumes nothing.
use Rattle.pcd_tally.proofs.Laws.{nothing_read}
use Rattle.pcd_tally.proofs.begun.Goals as goal

pub returns : goal.returns
returns c = nothing_read _ c.fresh-begun.ensures.is_fresh
