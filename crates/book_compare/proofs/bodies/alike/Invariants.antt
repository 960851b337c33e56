-- `book_compare::bodies::alike` meets its contract: all blocks passed are equal. Assumes nothing.
use Prim.Native.Nat.{◌-◌}
use lib.ListN.{length}
use Rattle.book_compare.specs.Merge.{Alike}
use Rattle.book_compare.proofs.bodies.alike.Given as goal

abbrev pub invariant-loop-at : goal.invariant-loop-at
invariant-loop-at l = Alike l.c l.d l.at

abbrev pub decreases-loop-at : goal.decreases-loop-at
decreases-loop-at l = length l.c - l.at
