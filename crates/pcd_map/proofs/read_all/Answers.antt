-- `pcd_map::read_all` ends: the area has its length. Assumes nothing.
use mathlib.Core.Path.{sym}
use Prim.Native.Nat.{ℕ}
use lib.ListN.{length-replicate}
use Rattle.pcd_map.proofs.read_all.Goals as goal

pub slice_bounds-area-end : goal.slice_bounds-area-end
slice_bounds-area-end g c = sym (length-replicate {A = ℕ} 16384 0)
