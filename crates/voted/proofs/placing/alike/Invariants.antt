-- `voted::placing::alike` meets its contract: the run so far is kept by one cell more at each turn. Assumes nothing.
use Prim.Native.Nat.{◌-◌, ◌≤◌}
use Rattle.nominal.specs.Stretches.{last_place}
use Rattle.voted.specs.Stretches.{RunsOn}
use Rattle.voted.proofs.placing.alike.Given as goal

abbrev pub invariant-loop-next : goal.invariant-loop-next
invariant-loop-next l = RunsOn l.piece l.initial.next l.initial.frame l.next l.frame × (l.initial.next.at ≤ l.next.at)

abbrev pub decreases-loop-next : goal.decreases-loop-next
decreases-loop-next l = last_place - l.next.placed
