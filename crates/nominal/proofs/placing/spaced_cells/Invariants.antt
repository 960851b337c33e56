-- `nominal::placing::spaced_cells` meets its contract: the cells so far are stored with the FILL after them, and more at each turn, since a cell stands
-- there. Assumes nothing.
use Prim.Native.Nat.{◌-◌, ◌≤◌}
use lib.ListN.{length}
use Rattle.base.specs.Format.{FILL}
use Rattle.quiet.specs.Quiet.{Byte}
use Rattle.nominal.specs.Stretches.{Stored}
use Rattle.nominal.proofs.placing.spaced_cells.Given as goal

abbrev pub invariant-loop-p : goal.invariant-loop-p
invariant-loop-p l = Stored l.piece l.from l.at l.start l.p l.initial.frame l.frame × (l.p ≤ 127) × ((Byte l.piece l.from FILL → ⊥) → Byte l.piece l.at FILL → ⊥)

abbrev pub decreases-loop-p : goal.decreases-loop-p
decreases-loop-p l = length l.piece - l.at
