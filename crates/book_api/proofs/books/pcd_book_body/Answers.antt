-- `book_api::books::pcd_book_body` meets its contract. Assumes nothing.
use Rattle.book_api.proofs.BookCrossed.{body_crossed}
use Rattle.book_api.proofs.books.pcd_book_body.Goals as goal

pub returns : goal.returns
returns c = body_crossed c.args.book.now _ c.args.i _ _ _ c.try_body_place.ensures.is c.pass_place.ensures.code c.pass_place.ensures.out
