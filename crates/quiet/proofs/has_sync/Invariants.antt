-- `quiet::has_sync` meets its contract: whether SYNC is among the bytes so far. Assumes nothing.
use mathlib.Core.Path.{◌≡◌}
use Prim.Native.Nat.{◌-◌, ◌≤◌}
use lib.Dec.{ltb}
use Rattle.base.specs.Lists.{count_by}
use Rattle.quiet.specs.Quiet.{block, is_sync}
use Rattle.quiet.proofs.has_sync.Given as goal

abbrev pub invariant-loop-i : goal.invariant-loop-i
invariant-loop-i l = (l.found ≡ ltb 0 (count_by is_sync (block l.piece l.at l.i))) × (l.i ≤ 64)

abbrev pub decreases-loop-i : goal.decreases-loop-i
decreases-loop-i l = 64 - l.i
