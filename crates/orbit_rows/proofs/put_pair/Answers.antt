-- `orbit_rows::put_pair` meets its contract: one part behind the other. Assumes nothing.
use Rattle.command.proofs.TextLaws.{adds_append}
use borrow.Author.Rules.{rules}
use Rattle.orbit_rows.proofs.put_pair.Goals as goal

pub returns : goal.returns
returns c = search (rules, adds_append)
