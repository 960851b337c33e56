-- `book::header::year` meets its contract: it is what the header says. Assumes nothing.
use Rattle.std.proofs.Common.{sym, ◌∙◌}
use Rattle.book.proofs.Headers.{year_given, year_none}
use Rattle.book.proofs.header.year.Goals as goal

pub returns-in-Ok : goal.returns-in-Ok
returns-in-Ok c = year_given c.args.bytes.now _ (sym c.read_header.ensures.answer ∙ c.in-Ok.is)

pub returns-in-Err : goal.returns-in-Err
returns-in-Err c = year_none c.args.bytes.now _ (sym c.read_header.ensures.answer ∙ c.in-Err.is)
