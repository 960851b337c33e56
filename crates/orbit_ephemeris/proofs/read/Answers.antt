-- `orbit_ephemeris::read` meets its contract. Assumes nothing.
use Rattle.std.proofs.Common.{sym, ◌∙◌}
use Rattle.cycle_records.proofs.Known.{to-dated}
use Rattle.cycle_columns.proofs.Gathering.{column-given}
use Rattle.orbit_ephemeris.proofs.Answers.{ephemeris_refused, ephemeris_given}
use Rattle.orbit_ephemeris.proofs.read.Goals as goal

pub returns-in_err-instant : goal.returns-in_err-instant
returns-in_err-instant c =
    let a = c.args in
    ephemeris_refused a.body.now a.year a.k _ c.instant_in_year.ensures _ _ c.in_err-instant.was c.from_residual.ensures.1

pub returns : goal.returns
returns c =
    let a = c.args in
    let known = to-dated a.body.now a.year a.k _ (sym c.instant_in_year.ensures ∙ c.in_ok-instant.was) in
    let word72 = column-given a.body.now a.k known.cycle c.column-column.ensures.0 in
    ephemeris_given a.body.now a.year a.k _ c.instant_in_year.ensures _ _ _ _ c.in_ok-instant.was known word72
    c.first_place.ensures.0 c.in_column.ensures
