-- `relocking::before_group` meets its contract: so many bytes, and those before the first SYNC of the rest, are those of the piece. Assumes nothing.
use mathlib.Core.Path.{◌≡◌}
use Prim.Native.Nat.{◌+◌, ◌-◌, ◌≤◌}
use lib.ListN.{length, drop}
use Rattle.relocking.specs.Relock.{before_group}
use Rattle.relocking.proofs.before_group.Given as goal

abbrev pub invariant-loop-i : goal.invariant-loop-i
invariant-loop-i l = (l.i + before_group (drop l.i l.piece) ≡ before_group l.piece) × (l.i ≤ length l.piece)

abbrev pub decreases-loop-i : goal.decreases-loop-i
decreases-loop-i l = length l.piece - l.i
