-- `pcd_book_check::verdict::put_line` meets its contract: one part behind the other. Assumes nothing.
use Rattle.command.proofs.TextLaws.{adds_append}
use borrow.Author.Rules.{rules}
use Rattle.pcd_book_check.proofs.verdict.put_line.Goals as goal

pub returns : goal.returns
returns c = search (rules, adds_append)
