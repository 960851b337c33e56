-- `pcd_frames::write_frame` meets its contract: the frame that is due is counted. Assumes nothing.
use Rattle.pcd_frames.proofs.write_frame.Goals as goal

pub returns : goal.returns
returns g c = c.wrote.ensures c.requires
