-- `command::words::put_meaning` meets its contract: one behind the other. Assumes nothing.
use Rattle.command.proofs.TextLaws.{adds_append}
use borrow.Author.Rules.{rules}
use Rattle.command.proofs.words.put_meaning.Goals as goal

pub returns : goal.returns
returns c = search (rules, adds_append)
