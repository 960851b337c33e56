-- `book_view::cycles_of` meets its contract: the number is that of what a view holds. Assumes nothing.
use mathlib.Core.Path.{ap, ◌∙◌}
use Rattle.book.specs.Header.{count_of}
use Rattle.book_view.proofs.HeldLaws.{now-held}
use Rattle.book_view.proofs.cycles_of.Goals as goal

pub returns : goal.returns
returns c = c.cycles.ensures ∙ ap count_of (now-held c.view.result.bytes c.args.bytes c.view.ensures)
