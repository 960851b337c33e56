-- `pcd_frames::turn` meets its contract: what comes of the reel is dealt with. Assumes nothing.
use Rattle.pcd_frames.proofs.Laws.{came}
use borrow.Author.Rules.{rules}
use Rattle.pcd_frames.proofs.turn.Goals as goal

pub done_with-requires : goal.done_with-requires
done_with-requires g c = search (rules, came)
