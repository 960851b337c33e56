-- `book_writer::falls` meets its contract: the first body has none before it. Assumes nothing.
use Rattle.book_writer.proofs.Tests.{later-row, first-row}
use Rattle.book_writer.proofs.falls.Goals as goal

pub returns-then-i-gt0 : goal.returns-then-i-gt0
returns-then-i-gt0 c =
    let a = c.args in
    later-row a.year a.bodies.now a.i _ _ c.if-i-gt0.true c.instant_in.ensures c.instant_in-then-i-gt0.ensures

pub returns : goal.returns
returns c = let a = c.args in first-row a.year a.bodies.now a.i c.if-i-gt0.false
