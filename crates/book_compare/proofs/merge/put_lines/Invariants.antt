-- `book_compare::merge::put_lines` meets its contract: what is listed and what is yet to be merged is the whole merge. A line needs a step, and
-- there are at most 510. Assumes nothing.
use Prim.Native.Nat.{◌+◌, ◌-◌, ◌≤◌}
use mathlib.Core.Path.{◌≡◌}
use lib.ListN.{length}
use Rattle.book_compare.specs.Merge.{Placed}
use Rattle.book_compare.proofs.Merging.{Progress}
use Rattle.book_compare.proofs.merge.put_lines.Given as goal

abbrev pub invariant-loop-i : goal.invariant-loop-i
invariant-loop-i l = Placed l.first l.second l.i l.j × (l.k ≤ l.i + l.j) × (length l.table ≡ 1530) × Progress l.first l.second l.initial.table l.table l.i l.j l.k

abbrev pub decreases-loop-i : goal.decreases-loop-i
decreases-loop-i l = l.end - (l.i + l.j)
