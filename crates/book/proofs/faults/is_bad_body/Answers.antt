-- `book::faults::is_bad_body` meets its contract: the part is the row. Assumes nothing.
use Rattle.book.proofs.Tests.{row-tested}
use Rattle.book.proofs.faults.is_bad_body.Goals as goal

pub returns : goal.returns
returns c = row-tested c.args.year c.args.bodies.now c.args.i _ c.is_cycle.ensures
