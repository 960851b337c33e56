-- `book::header::cycles` meets its contract: it is what the header says. Assumes nothing.
use Rattle.std.proofs.Common.{sym, ◌∙◌}
use Rattle.book.proofs.Headers.{count_given, count_none}
use Rattle.book.proofs.header.cycles.Goals as goal

pub returns-in-Ok : goal.returns-in-Ok
returns-in-Ok c = count_given c.args.bytes.now _ (sym c.read_header.ensures.answer ∙ c.in-Ok.is)

pub returns-in-Err : goal.returns-in-Err
returns-in-Err c = count_none c.args.bytes.now _ (sym c.read_header.ensures.answer ∙ c.in-Err.is)
