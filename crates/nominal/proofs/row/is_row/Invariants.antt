-- `nominal::row::is_row` meets its contract: where nothing is wrong so far, each byte so far belongs where it stands. Assumes nothing.
use mathlib.Core.Path.{◌≡◌}
use Prim.Native.Nat.{◌-◌, ◌≤◌}
use Rattle.nominal.specs.Stretches.{Belongs}
use Rattle.nominal.proofs.Rows.{Belong}
use Rattle.nominal.proofs.row.is_row.Given as goal

abbrev pub invariant-loop-k : goal.invariant-loop-k
invariant-loop-k l = (l.k ≤ 64) × (l.bad ≡ 0 → Belong Belongs 4 l.piece l.at l.k)

abbrev pub decreases-loop-k : goal.decreases-loop-k
decreases-loop-k l = 64 - l.k
