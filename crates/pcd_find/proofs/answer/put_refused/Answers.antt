-- `pcd_find::answer::put_refused` meets its contract: one part behind the other. Assumes nothing.
use Rattle.command.proofs.TextLaws.{adds_append}
use borrow.Author.Rules.{rules}
use Rattle.pcd_find.proofs.answer.put_refused.Goals as goal

pub returns : goal.returns
returns c = search (rules, adds_append)
