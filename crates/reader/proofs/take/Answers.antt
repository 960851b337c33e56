-- `reader::take` meets its contract: no lock stops it, so that the part is the piece. Assumes nothing.
use Rattle.reader.proofs.Answers.{whole-promise}
use Rattle.reader.proofs.take.Goals as goal

pub returns : goal.returns
returns c = whole-promise c.take_part.ensures
