-- `pcd_book_compare::differences::report` meets its contract: the table has its length. Assumes nothing.
use mathlib.Core.Path.{sym}
use Prim.Native.Nat.{ℕ}
use lib.ListN.{length-replicate}
use Rattle.pcd_book_compare.proofs.differences.report.Goals as goal

pub slice_bounds-table-end : goal.slice_bounds-table-end
slice_bounds-table-end g c = sym (length-replicate {A = ℕ} 1530 0)
