-- `cycle::is_frame` meets its contract: the length first, then the frame. Assumes nothing.
use borrow.Author.Tests.{ne_eqb, eq-eqb}
use Rattle.cycle.specs.Cycle.{is_frame}
use Rattle.cycle.proofs.is_frame.Goals as goal

pub returns-then-frame-ne-MAJOR_FRAME : goal.returns-then-frame-ne-MAJOR_FRAME
unfolding is_frame
returns-then-frame-ne-MAJOR_FRAME c = rw (ne_eqb _ 16384 c.if-frame-ne-MAJOR_FRAME.true)

pub returns : goal.returns
unfolding is_frame
returns c = rw (eq-eqb _ 16384 c.if-frame-ne-MAJOR_FRAME.false) c.is_major.ensures
