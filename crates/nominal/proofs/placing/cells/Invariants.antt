-- `nominal::placing::cells` meets its contract: the cells so far are stored, and one more at each turn. The position
-- and the place go up together, so that one bound serves for both. Assumes nothing.
use mathlib.Core.Path.{◌≡◌}
use Prim.Native.Nat.{◌+◌, ◌*◌, ◌-◌, ◌≤◌}
use Rattle.nominal.specs.Stretches.{Stored}
use Rattle.nominal.proofs.placing.cells.Given as goal

abbrev pub invariant-loop-at : goal.invariant-loop-at
invariant-loop-at l = Stored l.piece l.from l.at l.start l.p l.initial.frame l.frame × (l.at + 9 * l.start ≡ l.from + 9 * l.p) × (l.start ≤ l.p)

abbrev pub decreases-loop-at : goal.decreases-loop-at
decreases-loop-at l = l.stop - l.at
