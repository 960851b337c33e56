-- `book::fields::year_said` meets its contract: it reads the bytes at places 2 and 3. Assumes nothing.
use Rattle.book.proofs.Said.{year_read}
use Rattle.book.proofs.fields.year_said.Goals as goal

pub returns : goal.returns
returns c = year_read c.args.bytes.now _ c.read.ensures
