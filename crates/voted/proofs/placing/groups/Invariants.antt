-- `voted::placing::groups` meets its contract: the run so far is kept, past what is no SYNC, or by one group, at each turn; it ends where the last
-- place comes next, where all copies differ, or where no whole group is left. Assumes nothing.
use Prim.Native.Nat.{◌-◌}
use lib.ListN.{length}
use Rattle.voted.specs.Stretches.{RunsOn}
use Rattle.voted.proofs.placing.groups.Given as goal

abbrev pub invariant-loop-next : goal.invariant-loop-next
invariant-loop-next l = RunsOn l.piece l.initial.next l.initial.frame l.next l.frame

abbrev pub decreases-loop-next : goal.decreases-loop-next
decreases-loop-next l = length l.piece - l.next.at
