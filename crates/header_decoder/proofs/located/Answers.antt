-- `header_decoder::located` meets its contract: the four values are the syndrome's digits. Assumes nothing.
use Rattle.header_code.specs.Decoder.{located}
use Rattle.header_decoder.proofs.located.Goals as goal

pub returns : goal.returns
unfolding located
returns c = c.from_values.ensures
