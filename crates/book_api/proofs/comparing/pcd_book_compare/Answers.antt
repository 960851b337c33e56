-- `book_api::comparing::pcd_book_compare` meets its contract. Assumes nothing.
use Rattle.book_api.proofs.ComparedCrossed.{compare_crossed}
use Rattle.book_api.proofs.comparing.pcd_book_compare.Goals as goal

pub returns : goal.returns
returns c = compare_crossed _ _ _ _ _ _ _ _ c.compare.ensures c.pass.ensures.code c.pass.ensures.out
