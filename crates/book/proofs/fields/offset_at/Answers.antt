-- `book::fields::offset_at` meets its contract: the part is the entry's last four bytes. Assumes nothing.
use Rattle.book.proofs.Said.{offset_read}
use Rattle.book.proofs.fields.offset_at.Goals as goal

pub returns : goal.returns
returns c = let a = c.args in offset_read a.bytes.now _ a.i c.read.ensures
