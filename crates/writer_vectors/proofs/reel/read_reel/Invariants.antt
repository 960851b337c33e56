-- `writer_vectors::reel::read_reel` is safe and ends: each accepted step goes onward, and a refused one ends it. Assumes nothing.
use mathlib.Core.Path.{◌≡◌}
use Prim.Native.Nat.{◌-◌}
use lib.ListN.{length}
use Rattle.writer_vectors.proofs.reel.read_reel.Given as goal

abbrev pub invariant-loop-at : goal.invariant-loop-at
invariant-loop-at l = length l.area ≡ length l.initial.area

abbrev pub decreases-loop-at : goal.decreases-loop-at
decreases-loop-at l = length l.reel - l.at
