-- `cycle_columns::column` meets its contract: the frame's column, or zeros. Assumes nothing.
use mathlib.Core.Path.{◌∙◌}
use Prim.Native.Nat.{ℕ}
use lib.ListN.{length-replicate}
use Rattle.cycle_columns.proofs.Gathering.{column-there, no_cycle, no_frame}
use Rattle.cycle_columns.proofs.column.Goals as goal

pub returns-then-body-ne-CYCLE : goal.returns-then-body-ne-CYCLE
returns-then-body-ne-CYCLE c =
    let a = c.args in
    (no_cycle a.body.now a.k c.if-body-ne-CYCLE.true, length-replicate {A = ℕ} 128 0)

pub returns-then-k-gt-LAST_FRAME : goal.returns-then-k-gt-LAST_FRAME
returns-then-k-gt-LAST_FRAME c =
    let a = c.args in
    (no_frame a.body.now a.k c.if-body-ne-CYCLE.false c.if-k-gt-LAST_FRAME.true, length-replicate {A = ℕ} 128 0)

pub returns : goal.returns
returns c =
    let a = c.args in
    let made = c.frame_column.ensures in
    (made.0 ∙ column-there a.body.now a.k c.if-body-ne-CYCLE.false c.if-k-gt-LAST_FRAME.false, made.1)
