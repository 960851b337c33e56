-- `pcd_book_check::in_small_room` ends: the room has its length. Assumes nothing.
use mathlib.Core.Path.{sym}
use Prim.Native.Nat.{ℕ}
use lib.ListN.{length-replicate}
use Rattle.pcd_book_check.proofs.in_small_room.Goals as goal

pub slice_bounds-room-end : goal.slice_bounds-room-end
slice_bounds-room-end g c = sym (length-replicate {A = ℕ} 2097541 0)
