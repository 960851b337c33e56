-- `calendar::in_span` meets its contract: the code joins the definition's tests. Assumes nothing.
use borrow.Author.Rules.{rules}
use Rattle.calendar.specs.Calendar.{in_span}
use Rattle.calendar.proofs.in_span.Goals as goal

pub returns : goal.returns
unfolding in_span
returns c = search rules
