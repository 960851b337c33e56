-- `nominal::cell_row::are_cells` meets its contract: where nothing is wrong so far, each byte so far belongs where it stands. Assumes nothing.
use mathlib.Core.Path.{◌≡◌}
use Prim.Native.Nat.{◌-◌, ◌≤◌}
use Rattle.nominal.specs.Stretches.{InCell}
use Rattle.nominal.proofs.Rows.{Belong}
use Rattle.nominal.proofs.cell_row.are_cells.Given as goal

abbrev pub invariant-loop-k : goal.invariant-loop-k
invariant-loop-k l = (l.k ≤ 144) × (l.bad ≡ 0 → Belong InCell 9 l.piece l.at l.k)

abbrev pub decreases-loop-k : goal.decreases-loop-k
decreases-loop-k l = 144 - l.k
