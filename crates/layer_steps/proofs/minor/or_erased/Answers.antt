-- `layer_steps::minor::or_erased` meets its contract: each arm is the definition's case. Assumes nothing.
use mathlib.Core.Bool.{or-false, or-true}
use Rattle.layer_steps.proofs.minor.or_erased.Goals as goal

pub returns-in-Voted : goal.returns-in-Voted
returns-in-Voted c = rw (c.in-Voted.is, or-false c.args.held)

pub returns-in-Erased : goal.returns-in-Erased
returns-in-Erased c = rw (c.in-Erased.is, or-true c.args.held)
