-- `pcd_book::write_from` calls itself on fewer arguments: from i + 2 on. Assumes nothing.
use Prim.Native.Nat.{◌-◌}
use Rattle.pcd_book.proofs.+write_from.Given as goal

abbrev pub decreases-write_from : goal.decreases-write_from
decreases-write_from g l = l.count - l.i
