-- `cycle_records::instant_in_year` meets its contract: after the lines of every record, the one for its instant. Assumes nothing.
use native.Mathlib.Omega.{arith}
use Rattle.std.proofs.Common.{sym, ap, ◌∙◌, true, false}
use Rattle.cycle_records.specs.Instants.{is_writable}
use Rattle.cycle_records.proofs.Known.{dated_first, dated_last}
use Rattle.cycle_records.proofs.instant_in_year.Goals as goal

pub returns-in_err-check_cycle : goal.returns-in_err-check_cycle
returns-in_err-check_cycle c =
    let a = c.args in
    dated_first a.body.now a.year a.k _ c.check_cycle.ensures _ _ c.in_err-check_cycle.was c.from_residual.ensures.1

pub returns-then-not-is_writable : goal.returns-then-not-is_writable
returns-then-not-is_writable c =
    let a = c.args in
    dated_last a.body.now a.year a.k _ c.check_cycle.ensures _ false c.in_ok-check_cycle.was c.instant-instant.ensures
    (sym c.if-not-is_writable.true ∙ c.is_writable.ensures ∙ ap (is_writable a.year) c.instant-instant.ensures)

pub returns : goal.returns
returns c =
    let a = c.args in
    dated_last a.body.now a.year a.k _ c.check_cycle.ensures _ true c.in_ok-check_cycle.was (omega arith)
    (sym c.if-not-is_writable.false ∙ c.is_writable.ensures ∙ ap (is_writable a.year) c.instant-instant.ensures)
