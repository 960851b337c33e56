-- `orbit_temperatures::read` meets its contract. Assumes nothing.
use Rattle.std.proofs.Common.{sym, ◌∙◌}
use Rattle.cycle_records.proofs.Known.{to-cycle}
use Rattle.cycle_columns.proofs.Gathering.{column-given}
use Rattle.orbit_temperatures.proofs.Answers.{temperatures_refused, temperatures_given}
use Rattle.orbit_temperatures.proofs.read.Goals as goal

pub returns-in_err-check_cycle : goal.returns-in_err-check_cycle
returns-in_err-check_cycle c =
    let a = c.args in
    temperatures_refused a.body.now a.year a.k _ c.check_cycle.ensures _ _ c.in_err-check_cycle.was c.from_residual.ensures.1

pub returns : goal.returns
returns c =
    let a = c.args in
    let known = to-cycle a.body.now a.year a.k (sym c.check_cycle.ensures ∙ c.in_ok-check_cycle.was) in
    let word72 = column-given a.body.now a.k known c.column-column.ensures.0 in
    temperatures_given a.body.now a.year a.k _ c.check_cycle.ensures _ _ c.in_ok-check_cycle.was word72 c.in_column.ensures
