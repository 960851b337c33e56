-- `pcd_book_check::verdict::put_verdict` meets its contract. Assumes nothing.
use Rattle.std.proofs.Common.{sym}
use Rattle.pcd_book_check.proofs.verdict.put_verdict.Goals as goal

pub returns-in-Ok : goal.returns-in-Ok
returns-in-Ok c = rw c.in-Ok.is c.put.ensures

pub returns-in-Err : goal.returns-in-Err
returns-in-Err c = rw (c.in-Err.is, sym c.number.ensures) c.put_fault.ensures
