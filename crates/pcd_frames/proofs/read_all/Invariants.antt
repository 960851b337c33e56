-- `pcd_frames::read_all` meets its contract: at each turn all that is paid is written. Assumes nothing.
use Rattle.frames_state.specs.Frames.{AllWritten}
use Rattle.pcd_frames.proofs.read_all.Given as goal

abbrev pub invariant-loop : goal.invariant-loop
invariant-loop g l = AllWritten l.s l.area
