-- `voted::hunting::alike` meets its contract: the run so far goes on by one cell more at each turn. Assumes nothing.
use Prim.Native.Nat.{◌*◌, ◌-◌, ◌≤◌}
use Rattle.voted.specs.Stretches.{SeeksOn, most_groups}
use Rattle.voted.proofs.hunting.alike.Given as goal

abbrev pub invariant-loop-next : goal.invariant-loop-next
invariant-loop-next l = SeeksOn l.piece l.initial.next l.next × (l.initial.next.at ≤ l.next.at) × (l.next.sums ≤ 0x100010001 * l.next.count)

abbrev pub decreases-loop-next : goal.decreases-loop-next
decreases-loop-next l = most_groups - l.next.count
