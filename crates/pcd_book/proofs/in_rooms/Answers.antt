-- `pcd_book::in_rooms` hands on its room: it has its length. Assumes nothing.
use mathlib.Core.Path.{sym}
use Prim.Native.Nat.{ℕ}
use lib.ListN.{length-replicate}
use Rattle.pcd_book.proofs.in_rooms.Goals as goal

pub slice_bounds-bodies-end : goal.slice_bounds-bodies-end
slice_bounds-bodies-end g c = sym (length-replicate {A = ℕ} g.row.BODIES 0)

pub gather-requires : goal.gather-requires
gather-requires g c = rw (length-replicate {A = ℕ} g.row.BODIES 0) c.requires
