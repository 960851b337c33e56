-- `voted::hunting::other_groups` meets its contract: the run so far goes on past what is no SYNC, or by one group, at each turn; it ends where there
-- are too many groups, where all copies differ, where the word is FA, or where no whole group is left. Assumes nothing.
use Prim.Native.Nat.{◌-◌}
use lib.ListN.{length}
use Rattle.voted.specs.Stretches.{Going}
use Rattle.voted.proofs.hunting.other_groups.Given as goal

abbrev pub invariant-loop-next : goal.invariant-loop-next
invariant-loop-next l = Going l.piece l.from l.next

abbrev pub decreases-loop-next : goal.decreases-loop-next
decreases-loop-next l = length l.piece - l.next.at
