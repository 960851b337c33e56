-- `pcd_book::gathering::gather` meets its contract: each turn that goes on has read more frames. Assumes nothing.
use mathlib.Core.Path.{◌≡◌}
use Prim.Native.Nat.{◌-◌, ◌^◌}
use lib.ListN.{length}
use Rattle.pcd_book.specs.Shelves.{Fits, Kept}
use Rattle.pcd_book.proofs.gathering.gather.Given as goal

abbrev pub invariant-loop-shelf : goal.invariant-loop-shelf
invariant-loop-shelf g l = Fits (length l.initial.bodies) l.shelf × (length l.bodies ≡ length l.initial.bodies) × Kept l.year l.bodies l.shelf

abbrev pub decreases-loop-shelf : goal.decreases-loop-shelf
decreases-loop-shelf g l = 2 ^ 64 - l.shelf.frames
