-- `header_decoder::place` meets its contract: the constant table is the definition's. Assumes nothing.
use mathlib.Core.Path.{refl}
use Rattle.header_code.specs.Decoder.{places}
use Rattle.header_decoder.proofs.place.Goals as goal

pub returns : goal.returns
unfolding places
returns c = refl
