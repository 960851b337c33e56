-- `book::faults::is_sized` meets its contract: its two tests are the definition's. Assumes nothing.
use Rattle.book.proofs.Said.{sized_is}
use Rattle.book.proofs.faults.is_sized.Goals as goal

pub returns : goal.returns
returns c = sized_is c.args.bytes.now _ c.cycles_said-n.ensures.0
