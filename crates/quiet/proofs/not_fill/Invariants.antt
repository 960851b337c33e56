-- `quiet::not_fill` meets its contract: how many of the bytes so far are not FILL. Assumes nothing.
use mathlib.Core.Path.{◌≡◌}
use Prim.Native.Nat.{◌-◌, ◌≤◌}
use Rattle.base.specs.Lists.{count_by}
use Rattle.quiet.specs.Quiet.{block, not_fill}
use Rattle.quiet.proofs.not_fill.Given as goal

abbrev pub invariant-loop-i : goal.invariant-loop-i
invariant-loop-i l = (l.n ≡ count_by not_fill (block l.piece l.at l.i)) × (l.n ≤ l.i) × (l.i ≤ 64)

abbrev pub decreases-loop-i : goal.decreases-loop-i
decreases-loop-i l = 64 - l.i
