-- `pcd_book_compare::compare_from` calls itself on fewer arguments: from i + 2 on. Assumes nothing.
use Prim.Native.Nat.{◌-◌}
use Rattle.pcd_book_compare.proofs.+compare_from.Given as goal

abbrev pub decreases-compare_from : goal.decreases-compare_from
decreases-compare_from g l = l.count - l.i
