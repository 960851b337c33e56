-- `pcd_find::find_from` calls itself on fewer arguments: from i + 2 on. Assumes nothing.
use Prim.Native.Nat.{◌-◌}
use Rattle.pcd_find.proofs.+find_from.Given as goal

abbrev pub decreases-find_from : goal.decreases-find_from
decreases-find_from g l = l.count - l.i
