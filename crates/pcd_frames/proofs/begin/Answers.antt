-- `pcd_frames::begin` meets its contract: nothing is read and nothing written. Assumes nothing.
use Rattle.pcd_frames.proofs.Laws.{all-begun}
use borrow.Author.Rules.{rules}
use Rattle.pcd_frames.proofs.begin.Goals as goal

pub returns : goal.returns
returns g c = search (rules, all-begun)
