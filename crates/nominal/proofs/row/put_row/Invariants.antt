-- `nominal::row::put_row` meets its contract: one word more at each turn. Assumes nothing.
use Prim.Native.Nat.{◌+◌, ◌*◌, ◌-◌, ◌≤◌}
use Rattle.nominal.specs.Stretches.{Stored}
use Rattle.nominal.proofs.row.put_row.Given as goal

abbrev pub invariant-loop-k : goal.invariant-loop-k
invariant-loop-k l = (l.k ≤ 16) × Stored l.piece l.at (l.at + 4 * l.k) l.start (l.start + l.k) l.initial.frame l.frame

abbrev pub decreases-loop-k : goal.decreases-loop-k
decreases-loop-k l = 16 - l.k
