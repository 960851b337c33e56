-- `book_compare::bodies::block_differs` meets its contract: while nothing was found to differ, all bytes passed are equal. Assumes nothing.
use mathlib.Core.Path.{◌≡◌}
use mathlib.Core.Bool.{false}
use Prim.Native.Nat.{◌-◌, ◌≤◌}
use Rattle.book_compare.specs.Merge.{AlikeFrom}
use Rattle.book_compare.proofs.bodies.block_differs.Given as goal

abbrev pub invariant-loop-k : goal.invariant-loop-k
invariant-loop-k l = (l.k ≤ 64) × (l.differs ≡ false → AlikeFrom l.c l.d l.at l.k)

abbrev pub decreases-loop-k : goal.decreases-loop-k
decreases-loop-k l = 64 - l.k
