-- `instant_text::put_part` meets its contract: one part behind the other. Assumes nothing.
use Rattle.command.proofs.TextLaws.{adds_append}
use Rattle.instant_text.proofs.put_part.Goals as goal

pub returns : goal.returns
returns c = adds_append c.put_byte-marked.ensures c.put_padded.ensures
