-- `orbit_attitude::in_column` meets its contract: an integer that fits is its own bits read again. Assumes nothing.
use mathlib.Core.Path.{◌∙◌}
use Rattle.orbit_attitude.proofs.Columns.{as_returned, attitude_is}
use Rattle.orbit_attitude.proofs.in_column.Goals as goal

pub returns : goal.returns
returns c =
    attitude_is c.args.column.now _ _ _ _ _ (as_returned _ c.parameter.type_inv ∙ c.parameter.ensures)
    (as_returned _ c.parameter-2.type_inv ∙ c.parameter-2.ensures) (as_returned _ c.parameter-3.type_inv ∙ c.parameter-3.ensures)
    (as_returned _ c.parameter-4.type_inv ∙ c.parameter-4.ensures)
