-- `book_api::books::pcd_book_check` meets its contract: each arm is a case of the verdict. Assumes nothing.
use Rattle.book_api.proofs.BookCrossed.{check_crossed}
use Rattle.book_api.proofs.books.pcd_book_check.Goals as goal

pub returns-in-Ok : goal.returns-in-Ok
returns-in-Ok c = check_crossed _ _ _ c.check.ensures c.in-Ok.is

pub returns-in-Err : goal.returns-in-Err
returns-in-Err c = rw c.number.ensures (check_crossed _ _ _ c.check.ensures c.in-Err.is)
