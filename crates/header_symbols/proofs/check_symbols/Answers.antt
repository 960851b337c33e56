-- `header_symbols::check_symbols` meets its contract: the constant table is the definition's. Assumes nothing.
use Rattle.header_code.specs.Decoder.{checks}
use Rattle.header_symbols.proofs.check_symbols.Goals as goal

pub returns : goal.returns
unfolding checks
returns c = c.combine.ensures
