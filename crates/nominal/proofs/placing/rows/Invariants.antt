-- `nominal::placing::rows` meets its contract: the rows so far are stored, and one more at each turn. The position
-- and the place go up together, so that one bound serves for both. Assumes nothing.
use Prim.Native.Nat.{◌-◌}
use Rattle.nominal.proofs.Rows.{Rowed}
use Rattle.nominal.proofs.placing.rows.Given as goal

abbrev pub invariant-loop-at : goal.invariant-loop-at
invariant-loop-at l = Rowed 64 l.piece l.from l.at l.start l.p l.initial.frame l.frame

abbrev pub decreases-loop-at : goal.decreases-loop-at
decreases-loop-at l = l.stop - l.at
