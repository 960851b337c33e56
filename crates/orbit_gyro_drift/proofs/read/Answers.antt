-- `orbit_gyro_drift::read` meets its contract. Assumes nothing.
use native.Mathlib.Omega.{arith}
use Rattle.std.proofs.Common.{sym, ◌∙◌}
use Rattle.cycle_records.proofs.Known.{to-dated}
use Rattle.cycle_columns.proofs.Gathering.{column-given}
use Rattle.orbit_gyro_drift.proofs.Answers.{drift_refused, drift_given}
use Rattle.orbit_gyro_drift.proofs.read.Goals as goal

pub returns-in_err-instant : goal.returns-in_err-instant
returns-in_err-instant c =
    let a = c.args in
    drift_refused a.body.now a.year _ c.instant_in_year.ensures _ _ c.in_err-instant.was c.from_residual.ensures.1

pub returns : goal.returns
returns c =
    let a = c.args in
    let known = to-dated a.body.now a.year 0 _ (sym c.instant_in_year.ensures ∙ c.in_ok-instant.was) in
    let word72 = column-given a.body.now 0 known.cycle c.column-column.ensures.0 in
    drift_given a.body.now a.year _ c.instant_in_year.ensures _ _ _ _ c.in_ok-instant.was known (omega (arith, known.is)) word72
    c.in_column.ensures
