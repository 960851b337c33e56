-- `book::faults::is_bad_offset` meets its contract: the stored offset against where the body starts. Assumes nothing.
use Rattle.book.proofs.Tests.{offset-tested}
use Rattle.book.proofs.faults.is_bad_offset.Goals as goal

pub returns : goal.returns
returns c = offset-tested c.args.bytes.now c.args.i c.args.n _ _ c.requires.0.said c.offset_at.ensures c.body_start.ensures
