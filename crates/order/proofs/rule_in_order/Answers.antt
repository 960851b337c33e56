-- `order::rule_in_order` meets its contract: it is the test that the definition says. Assumes nothing.
use mathlib.Core.Path.{refl}
use Rattle.order.proofs.rule_in_order.Goals as goal

pub returns : goal.returns
returns c = refl
