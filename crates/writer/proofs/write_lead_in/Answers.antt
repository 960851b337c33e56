-- `writer::write_lead_in` meets its contract: its tests are the refusal table's, in the table's order. Assumes nothing.
use native.Mathlib.Omega.{arith}
use Rattle.writer.proofs.Outcomes.{lead_in-too_wide, lead_in-wrong_length, lead_in-written}
use Rattle.writer.proofs.write_lead_in.Goals as goal

pub returns-then-spacing-gt-MOST_SPACING : goal.returns-then-spacing-gt-MOST_SPACING
returns-then-spacing-gt-MOST_SPACING c =
    let a = c.args in
    lead_in-too_wide a.spacing a.out.now c.if-spacing-gt-MOST_SPACING.true

pub returns-then-out-step : goal.returns-then-out-step
returns-then-out-step c =
    let a = c.args in
    lead_in-wrong_length a.spacing a.out.now (omega (arith, c.if-spacing-gt-MOST_SPACING.false)) c.if-out-step.true

pub returns : goal.returns
returns c =
    let a = c.args in
    lead_in-written a.spacing a.out.now (omega (arith, c.if-spacing-gt-MOST_SPACING.false)) c.put_stream.new.out c.if-out-step.false
    c.put_stream.ensures
