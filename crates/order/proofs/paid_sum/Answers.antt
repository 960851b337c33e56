-- `order::paid_sum` meets its contract: eight counts within the limit do not run over. Assumes nothing.
use mathlib.Core.Path.{ap}
use lib.Dec.{eqb}
use Rattle.order.proofs.Tested.{sum-of_eight}
use Rattle.order.proofs.paid_sum.Goals as goal

pub returns : goal.returns
returns c = ap (eqb c.args.majors) (sum-of_eight c.args.o.paid c.requires.eight)
