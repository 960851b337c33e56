-- `pcd_book_check::check_from` calls itself on fewer arguments: from i + 1 on. Assumes nothing.
use Prim.Native.Nat.{◌-◌}
use Rattle.pcd_book_check.proofs.+check_from.Given as goal

abbrev pub decreases-check_from : goal.decreases-check_from
decreases-check_from g l = l.count - l.i
