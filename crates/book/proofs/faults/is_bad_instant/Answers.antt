-- `book::faults::is_bad_instant` meets its contract: the stored instant against the body's, and then against the one stored before. Assumes nothing.
use Rattle.book.proofs.Tests.{other-instant, later-instant, first-instant}
use Rattle.book.proofs.faults.is_bad_instant.Goals as goal

pub returns-then-instant : goal.returns-then-instant
returns-then-instant c =
    let a = c.args in
    other-instant a.bytes.now a.i a.year a.n _ _ c.requires.1 c.requires.0.said c.instant_at-instant.ensures c.instant.ensures
    c.if-instant.true

pub returns-then-i-gt0 : goal.returns-then-i-gt0
returns-then-i-gt0 c =
    let a = c.args in
    later-instant a.bytes.now a.i a.year a.n _ _ c.requires.1 c.requires.0.said c.instant_at-instant.ensures c.instant.ensures _
    c.if-instant.false c.if-i-gt0.true c.instant_at.ensures

pub returns : goal.returns
returns c =
    let a = c.args in
    first-instant a.bytes.now a.i a.year a.n _ _ c.requires.1 c.requires.0.said c.instant_at-instant.ensures c.instant.ensures
    c.if-instant.false c.if-i-gt0.false
