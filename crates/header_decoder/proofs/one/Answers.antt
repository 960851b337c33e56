-- `header_decoder::one` meets its contract. Assumes nothing.
use Rattle.header_decoder.proofs.Locating.{one-law}
use Rattle.header_decoder.proofs.one.Goals as goal

pub returns : goal.returns
returns c = one-law _ _ _ _ c.quotient.ensures.is c.lift.ensures
