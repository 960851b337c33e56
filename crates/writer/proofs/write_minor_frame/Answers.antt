-- `writer::write_minor_frame` meets its contract: its tests are the refusal table's, in the table's order. Assumes nothing.
use native.Mathlib.Omega.{arith}
use mathlib.Core.Path.{sym, ◌∙◌}
use Rattle.writer.proofs.Outcomes.{frame-too_wide, frame-wrong_length, out-wrong_length, frame-not_writable, frame-written}
use Rattle.writer.proofs.write_minor_frame.Goals as goal

pub returns-then-spacing-gt-MOST_SPACING : goal.returns-then-spacing-gt-MOST_SPACING
returns-then-spacing-gt-MOST_SPACING c =
    let a = c.args in
    frame-too_wide a.spacing a.frame.now a.out.now c.if-spacing-gt-MOST_SPACING.true

pub returns-then-frame-ne-MINOR_FRAME : goal.returns-then-frame-ne-MINOR_FRAME
returns-then-frame-ne-MINOR_FRAME c =
    let a = c.args in
    frame-wrong_length a.spacing a.frame.now a.out.now (omega (arith, c.if-spacing-gt-MOST_SPACING.false)) c.if-frame-ne-MINOR_FRAME.true

pub returns-then-out-step : goal.returns-then-out-step
returns-then-out-step c =
    let a = c.args in
    out-wrong_length a.spacing a.frame.now a.out.now (omega (arith, c.if-spacing-gt-MOST_SPACING.false)) c.if-frame-ne-MINOR_FRAME.false c.if-out-step.true

pub put_stream-requires : goal.put_stream-requires
put_stream-requires c =
    (omega arith, omega (arith, c.if-spacing-gt-MOST_SPACING.false), omega (arith, c.if-frame-ne-MINOR_FRAME.false), rw c.if-frame-ne-MINOR_FRAME.false c.if-out-step.false)

pub returns-then-not-is_writable : goal.returns-then-not-is_writable
returns-then-not-is_writable c =
    let a = c.args in
    let unwritable = sym c.is_writable.ensures ∙ c.if-not-is_writable.true in
    frame-not_writable a.spacing a.frame.now a.out.now (omega (arith, c.if-spacing-gt-MOST_SPACING.false)) c.if-frame-ne-MINOR_FRAME.false c.if-out-step.false unwritable

pub returns : goal.returns
returns c =
    let a = c.args in
    let writable = sym c.is_writable.ensures ∙ c.if-not-is_writable.false in
    frame-written a.spacing a.frame.now a.out.now (omega (arith, c.if-spacing-gt-MOST_SPACING.false)) c.if-frame-ne-MINOR_FRAME.false c.if-out-step.false
    c.put_stream.new.out writable c.put_stream.ensures
