-- `lookup::halve_among` meets its contract: at each turn halving from here on is the whole search,
-- with the looks so far added. Assumes nothing.
use Prim.Native.Nat.{◌-◌}
use Rattle.lookup.proofs.Halving.{Turn}
use Rattle.lookup.proofs.halve_among.Given as goal

abbrev pub invariant-loop-low : goal.invariant-loop-low
invariant-loop-low g l = Turn (g.I.Instants.items l.instants) l.wanted l.low l.high l.looks

abbrev pub decreases-loop-low : goal.decreases-loop-low
decreases-loop-low g l = l.high - l.low
