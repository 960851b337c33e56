-- `book_view::year_of` meets its contract: the number is that of what a view holds. Assumes nothing.
use mathlib.Core.Path.{ap, ◌∙◌}
use Rattle.book.specs.Header.{year_of}
use Rattle.book_view.proofs.HeldLaws.{now-held}
use Rattle.book_view.proofs.year_of.Goals as goal

pub returns : goal.returns
returns c = c.year.ensures ∙ ap year_of (now-held c.view.result.bytes c.args.bytes c.view.ensures)
