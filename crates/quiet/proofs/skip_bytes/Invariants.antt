-- `quiet::skip_bytes` meets its contract: the bytes so far are quiet, and one more at each turn. Assumes nothing.
use Prim.Native.Nat.{ℕ, ◌-◌, ◌≤◌}
use lib.ListN.{length}
use Rattle.quiet.specs.Quiet.{Quiet}
use Rattle.quiet.proofs.skip_bytes.Given as goal

abbrev pub invariant-loop-at : goal.invariant-loop-at
invariant-loop-at l = ((i : ℕ) → Quiet l.piece i l.initial.at l.initial.stray → Quiet l.piece i l.at l.stray) × (l.stray ≤ l.at)

abbrev pub decreases-loop-at : goal.decreases-loop-at
decreases-loop-at l = length l.piece - l.at
