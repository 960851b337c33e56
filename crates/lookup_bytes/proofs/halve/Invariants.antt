-- `lookup_bytes::halve` meets its contract: each turn is one of the halving rule on the instants that the bytes are. Assumes nothing.
use Prim.Native.Nat.{◌-◌}
use Rattle.lookup.proofs.Halving.{Turn}
use Rattle.lookup_bytes.specs.Promise.{instants_in}
use Rattle.lookup_bytes.proofs.halve.Given as goal

abbrev pub invariant-loop-low : goal.invariant-loop-low
invariant-loop-low l = Turn (instants_in l.instants) l.wanted l.low l.high l.looks

abbrev pub decreases-loop-low : goal.decreases-loop-low
decreases-loop-low l = l.high - l.low
