-- `tally_numbers::is_tally` meets its contract: it is the test that the definition says. Assumes nothing.
use mathlib.Core.Path.{refl}
use Rattle.tally_numbers.specs.Numbers.{is_tally}
use Rattle.tally_numbers.proofs.is_tally.Goals as goal

pub returns : goal.returns
unfolding is_tally
returns c = refl
