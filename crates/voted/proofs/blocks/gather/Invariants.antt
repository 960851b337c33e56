-- `voted::blocks::gather` meets its contract: one cell more at each turn, in the next lane. Assumes nothing.
use mathlib.Core.Path.{◌≡◌}
use Prim.Native.Nat.{◌+◌, ◌*◌, ◌-◌, ◌≤◌}
use Rattle.voted.specs.Lanes.{columns, Gathered}
use Rattle.voted.proofs.blocks.gather.Given as goal

abbrev pub invariant-loop-at : goal.invariant-loop-at
invariant-loop-at l = (l.at ≡ l.from + 9 * l.k) × (l.k ≤ l.most) × Gathered l.piece l.from l.k (columns l.first l.second l.third)

abbrev pub decreases-loop-at : goal.decreases-loop-at
decreases-loop-at l = l.stop - l.at
