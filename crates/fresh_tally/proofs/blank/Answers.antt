-- `fresh_tally::blank` meets its contract: it is the fresh tally of the rule. Assumes nothing.
use mathlib.Core.Path.{refl}
use Rattle.labelling.specs.Operators.{unpaid}
use Rattle.labelling.specs.Machine.{start, fresh}
use Rattle.fresh_tally.proofs.blank.Goals as goal

pub returns : goal.returns
unfolding fresh start unpaid
returns c = refl
