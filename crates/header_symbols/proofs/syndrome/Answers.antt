-- `header_symbols::syndrome` meets its contract: the constant table is the definition's. Assumes nothing.
use Rattle.header_code.specs.Decoder.{syndromes}
use Rattle.header_symbols.proofs.syndrome.Goals as goal

pub returns : goal.returns
unfolding syndromes
returns c = c.combine.ensures
