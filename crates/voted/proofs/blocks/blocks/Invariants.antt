-- `voted::blocks::blocks` meets its contract: each block goes on from the run so far. Assumes nothing.
use mathlib.Core.Bool.{cond}
use Prim.Native.Nat.{◌-◌}
use Rattle.voted.specs.Stretches.{RunsOn}
use Rattle.voted.proofs.blocks.blocks.Given as goal

abbrev pub invariant-loop-more : goal.invariant-loop-more
invariant-loop-more l = RunsOn l.piece l.initial.next l.initial.frame l.next l.frame

abbrev pub decreases-loop-more : goal.decreases-loop-more
decreases-loop-more l = cond l.more (128 - l.next.placed) 0
