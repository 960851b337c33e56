-- `quiet::skip_blocks` meets its contract: the blocks so far are quiet, and one more at each turn. Assumes nothing.
use Prim.Native.Nat.{◌-◌, ◌≤◌}
use lib.ListN.{length}
use Rattle.quiet.specs.Quiet.{Quiet}
use Rattle.quiet.proofs.skip_blocks.Given as goal

abbrev pub invariant-loop-at : goal.invariant-loop-at
invariant-loop-at l = Quiet l.piece l.from l.at l.stray × (l.at ≤ length l.piece) × (l.stray ≤ l.at)

abbrev pub decreases-loop-at : goal.decreases-loop-at
decreases-loop-at l = length l.piece - l.at
