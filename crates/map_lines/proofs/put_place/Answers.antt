-- `map_lines::put_place` meets its contract: one part behind the other. Assumes nothing.
use Rattle.command.proofs.TextLaws.{adds_append}
use borrow.Author.Rules.{rules}
use Rattle.map_lines.proofs.put_place.Goals as goal

pub returns : goal.returns
returns c = search (rules, adds_append)
