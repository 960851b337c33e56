-- `book_compare::merge::put_line` meets its contract: three stores, as one. Assumes nothing.
use Prim.Native.Nat.{◌*◌}
use native.Mathlib.Omega.{arith}
use lib.ListN.{length-set}
use Rattle.book_compare.proofs.Merging.{put_three}
use Rattle.book_compare.proofs.merge.put_line.Goals as goal

pub bounds-table-at-2 : goal.bounds-table-at-2
bounds-table-at-2 c = simp length-set (omega arith)

pub bounds-table-at-3 : goal.bounds-table-at-3
bounds-table-at-3 c = simp length-set (omega arith)

pub returns : goal.returns
returns c =
    let a = c.args in
    put_three a.table.now (3 * a.k) a.line.instant a.line.case a.line.place c.requires
