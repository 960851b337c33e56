-- `command::text::put_byte` meets its contract: the byte stands behind the text, or there is no room. Assumes nothing.
use Rattle.command.proofs.TextLaws.{adds_full, adds_byte}
use borrow.Author.Rules.{rules}
use Rattle.command.proofs.text.put_byte.Goals as goal

pub returns-then-at-out : goal.returns-then-at-out
returns-then-at-out c = adds_byte _ _ _ (search rules)

pub returns : goal.returns
returns c = adds_full _ _ _ c.if-at-out.false
