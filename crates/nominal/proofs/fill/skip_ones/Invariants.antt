-- `nominal::fill::skip_ones` meets its contract: the FILL so far, and one more at each turn. Assumes nothing.
use mathlib.Core.List.{[]}
use Prim.Native.Nat.{◌-◌}
use lib.ListN.{length}
use Rattle.nominal.specs.Stretches.{Nominal}
use Rattle.nominal.proofs.fill.skip_ones.Given as goal

abbrev pub invariant-loop-at : goal.invariant-loop-at
invariant-loop-at l = Nominal l.piece l.from l.at []

abbrev pub decreases-loop-at : goal.decreases-loop-at
decreases-loop-at l = length l.piece - l.at
