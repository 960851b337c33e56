-- `nominal::placing::groups` meets its contract: the groups so far are stored with the FILL after them, and one more at each turn; it ends
-- where the last place comes next, where the test of a group fails, or where no whole group is left. Assumes nothing.
use Prim.Native.Nat.{◌-◌, ◌≤◌}
use lib.ListN.{length}
use Rattle.base.specs.Format.{FILL}
use Rattle.quiet.specs.Quiet.{Byte}
use Rattle.nominal.specs.Stretches.{Stored}
use Rattle.nominal.proofs.placing.groups.Given as goal

abbrev pub invariant-loop-at : goal.invariant-loop-at
invariant-loop-at l = Stored l.piece l.from l.at l.start l.p l.initial.frame l.frame × (l.p ≤ 127) × (Byte l.piece l.at FILL → ⊥)

abbrev pub decreases-loop-at : goal.decreases-loop-at
decreases-loop-at l = length l.piece - l.at
