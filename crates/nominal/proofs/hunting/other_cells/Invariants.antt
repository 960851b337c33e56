-- `nominal::hunting::other_cells` meets its contract: the cells so far are passed, and one more at each turn. Assumes nothing.
use Prim.Native.Nat.{ℕ, ◌-◌, ◌≤◌}
use Rattle.nominal.specs.Stretches.{Hunted}
use Rattle.nominal.proofs.hunting.other_cells.Given as goal

abbrev pub invariant-loop-at : goal.invariant-loop-at
invariant-loop-at l = ((i : ℕ) → Hunted l.piece i l.initial.at l.initial.count l.initial.last → Hunted l.piece i l.at l.count l.last) × (l.count ≤ l.at)

abbrev pub decreases-loop-at : goal.decreases-loop-at
decreases-loop-at l = l.end - l.at
