-- `nominal::fill::skip_eights` meets its contract: the FILL so far, and eight more at each turn. Assumes nothing.
use mathlib.Core.List.{[]}
use Prim.Native.Nat.{◌-◌}
use Rattle.nominal.specs.Stretches.{Nominal}
use Rattle.nominal.proofs.fill.skip_eights.Given as goal

abbrev pub invariant-loop-at : goal.invariant-loop-at
invariant-loop-at l = Nominal l.piece l.from l.at []

abbrev pub decreases-loop-at : goal.decreases-loop-at
decreases-loop-at l = l.end - l.at
