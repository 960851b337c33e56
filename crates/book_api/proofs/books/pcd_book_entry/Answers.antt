-- `book_api::books::pcd_book_entry` meets its contract. Assumes nothing.
use Rattle.book_api.proofs.BookCrossed.{entry_crossed}
use Rattle.book_api.proofs.books.pcd_book_entry.Goals as goal

pub returns : goal.returns
returns c = entry_crossed c.args.book.now _ c.args.i _ _ _ c.try_entry_place.ensures.is c.pass_place.ensures.code c.pass_place.ensures.out
