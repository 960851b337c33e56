-- `book::fields::instant_at` meets its contract: the part is the entry's first eight bytes. Assumes nothing.
use Rattle.book.proofs.Said.{instant-read}
use Rattle.book.proofs.fields.instant_at.Goals as goal

pub returns : goal.returns
returns c = let a = c.args in instant-read a.bytes.now _ a.i c.read.ensures
