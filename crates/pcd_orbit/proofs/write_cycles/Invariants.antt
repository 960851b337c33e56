-- `pcd_orbit::write_cycles` ends: with each cycle more frames are read. Assumes nothing.
use mathlib.Core.Path.{◌≡◌}
use Prim.Native.Nat.{◌-◌, ◌^◌, ◌≤◌}
use lib.ListN.{length}
use Rattle.pcd_orbit.proofs.write_cycles.Given as goal

abbrev pub invariant-loop-read : goal.invariant-loop-read
invariant-loop-read g l = (length l.area ≡ length l.initial.area) × (l.cycle ≤ l.frames)

abbrev pub decreases-loop-read : goal.decreases-loop-read
decreases-loop-read g l = 2 ^ 64 - l.frames
