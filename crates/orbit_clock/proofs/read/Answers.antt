-- `orbit_clock::read` meets its contract. Assumes nothing.
use Rattle.std.proofs.Common.{sym, ◌∙◌}
use Rattle.cycle_records.proofs.Known.{to-cycle}
use Rattle.cycle_columns.proofs.Gathering.{column-given}
use Rattle.orbit_clock.proofs.Answers.{clock_refused, clock_given}
use Rattle.orbit_clock.proofs.read.Goals as goal

pub returns-in_err-check_cycle : goal.returns-in_err-check_cycle
returns-in_err-check_cycle c =
    let a = c.args in
    clock_refused a.body.now a.year _ c.check_cycle.ensures _ _ c.in_err-check_cycle.was c.from_residual.ensures.1

pub returns : goal.returns
returns c =
    let a = c.args in
    let known = to-cycle a.body.now a.year 0 (sym c.check_cycle.ensures ∙ c.in_ok-check_cycle.was) in
    let word72 = column-given a.body.now 0 known c.column-column.ensures.0 in
    clock_given a.body.now a.year _ c.check_cycle.ensures _ _ c.in_ok-check_cycle.was word72 c.in_column.ensures
