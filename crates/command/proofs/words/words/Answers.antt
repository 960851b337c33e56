-- `command::words::words` meets its contract: the words are the line of the table. Assumes nothing.
use Rattle.command.proofs.words.words.Goals as goal

pub returns : goal.returns
returns c = rw c.from.ensures at c.line.ensures
