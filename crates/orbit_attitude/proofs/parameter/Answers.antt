-- `orbit_attitude::parameter` meets its contract. Assumes nothing.
use mathlib.Core.Path.{ap, ◌∙◌}
use Rattle.fixed_point.specs.Counts.{signed}
use Rattle.orbit_attitude.proofs.Columns.{as_returned}
use Rattle.orbit_attitude.proofs.parameter.Goals as goal

pub returns : goal.returns
returns c = as_returned _ c.signed.type_inv ∙ c.signed.ensures ∙ ap signed c.count32.ensures
