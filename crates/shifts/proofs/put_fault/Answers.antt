-- `shifts::put_fault` meets its contract: one part behind the other. Assumes nothing.
use Rattle.command.proofs.TextLaws.{adds_append}
use borrow.Author.Rules.{rules}
use Rattle.shifts.proofs.put_fault.Goals as goal

pub returns : goal.returns
returns c = search (rules, adds_append)
