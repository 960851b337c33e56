-- `voted::blocks::vote` meets its contract: one lane more at each turn. Assumes nothing.
use Prim.Native.Nat.{◌*◌, ◌-◌}
use Rattle.voted.specs.Lanes.{columns}
use Rattle.voted.proofs.Lanes.{Voting}
use Rattle.voted.proofs.blocks.vote.Given as goal

abbrev pub invariant-loop-k : goal.invariant-loop-k
invariant-loop-k l = Voting (columns l.initial.first l.second l.third) (16 * l.vectors) l.first l.x l.y l.z l.none l.k

abbrev pub decreases-loop-k : goal.decreases-loop-k
decreases-loop-k l = 16 * l.vectors - l.k
