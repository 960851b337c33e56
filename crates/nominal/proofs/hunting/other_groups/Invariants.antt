-- `nominal::hunting::other_groups` meets its contract: the groups so far are passed with the FILL after them, and one more at each turn; it
-- ends where the test of a group fails, where FA comes next, or where no whole group is left. Assumes nothing.
use Prim.Native.Nat.{ℕ, ◌-◌, ◌≤◌}
use lib.ListN.{length}
use Rattle.base.specs.Format.{FILL}
use Rattle.quiet.specs.Quiet.{Byte}
use Rattle.nominal.specs.Stretches.{Hunted}
use Rattle.nominal.proofs.hunting.other_groups.Given as goal

abbrev pub invariant-loop-at : goal.invariant-loop-at
invariant-loop-at l = ((i : ℕ) → Hunted l.piece i l.initial.at l.initial.count l.initial.last → Hunted l.piece i l.at l.count l.last) × (l.count ≤ l.at) × (Byte l.piece l.at FILL → ⊥)

abbrev pub decreases-loop-at : goal.decreases-loop-at
decreases-loop-at l = length l.piece - l.at
