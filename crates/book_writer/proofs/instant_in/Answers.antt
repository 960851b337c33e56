-- `book_writer::instant_in` meets its contract: the part is the row. Assumes nothing.
use Rattle.book_writer.proofs.Tests.{row-instant}
use Rattle.book_writer.proofs.instant_in.Goals as goal

pub returns : goal.returns
returns c =
    let a = c.args in
    row-instant a.year a.bodies.now a.i _ c.instant.ensures
