-- `book::header::read_header` meets its contract: 16 is all that is tested. Assumes nothing.
use Rattle.std.proofs.Common.{sym, ◌∙◌}
use Rattle.book.proofs.Headers.{has_header, header_refused, said}
use Rattle.book.proofs.header.read_header.Goals as goal

pub returns-then-not-has_size : goal.returns-then-not-has_size
returns-then-not-has_size c = header_refused c.args.bytes.now (sym c.has_size.ensures ∙ c.if-not-has_size.true)

pub cycles_said-requires : goal.cycles_said-requires
cycles_said-requires c = has_header c.args.bytes.now (sym c.has_size.ensures ∙ c.if-not-has_size.false)

pub year_said-requires : goal.year_said-requires
year_said-requires c = has_header c.args.bytes.now (sym c.has_size.ensures ∙ c.if-not-has_size.false)

pub returns : goal.returns
returns c =
    said c.args.bytes.now (sym c.has_size.ensures ∙ c.if-not-has_size.false) _ _ c.cycles_said.ensures.0 c.year_said.ensures
