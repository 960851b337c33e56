-- `book_api::books::pcd_book_header` meets its contract: each arm is a case of the answer. Assumes nothing.
use Rattle.book_api.proofs.BookCrossed.{header_crossed}
use Rattle.book_api.proofs.books.pcd_book_header.Goals as goal

pub returns-in-Ok : goal.returns-in-Ok
returns-in-Ok c = header_crossed c.args.book.now _ _ _ c.read_header.ensures c.in-Ok.is

pub returns-in-Err : goal.returns-in-Err
returns-in-Err c = rw c.number.ensures (header_crossed c.args.book.now _ _ _ c.read_header.ensures c.in-Err.is)
