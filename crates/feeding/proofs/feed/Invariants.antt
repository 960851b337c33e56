-- `feeding::feed` meets its contract: the stream is read as far as the place reached, and the next call goes on there. Assumes nothing.
use mathlib.Core.Path.{◌≡◌}
use Prim.Native.Nat.{◌-◌}
use lib.ListN.{length}
use Rattle.feeding.proofs.Reading.{Reading}
use Rattle.feeding.proofs.feed.Given as goal

abbrev pub invariant-loop-f : goal.invariant-loop-f
invariant-loop-f l = Reading l.initial.f.tally l.stream l.initial.area l.f l.area × (length l.area ≡ length l.initial.area)

abbrev pub decreases-loop-f : goal.decreases-loop-f
decreases-loop-f l = length l.stream - l.f.taken
