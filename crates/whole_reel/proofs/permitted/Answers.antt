-- `whole_reel::permitted` meets its contract: its tests are the definition's, in that order. Assumes nothing.
use native.Mathlib.Omega.{arith}
use Rattle.whole_reel.proofs.ReadingReels.{refused-area, refused-length, not_refused}
use Rattle.whole_reel.proofs.permitted.Goals as goal

pub returns-then-area-ne-MAJOR_FRAME : goal.returns-then-area-ne-MAJOR_FRAME
returns-then-area-ne-MAJOR_FRAME c = refused-area c.args.stream c.args.area c.if-area-ne-MAJOR_FRAME.true

pub returns-then-stream-gt-LONGEST : goal.returns-then-stream-gt-LONGEST
returns-then-stream-gt-LONGEST c =
    refused-length c.args.stream c.args.area c.if-area-ne-MAJOR_FRAME.false (omega (arith, c.if-stream-gt-LONGEST.true))

pub returns : goal.returns
returns c = not_refused c.args.stream c.args.area c.if-area-ne-MAJOR_FRAME.false (omega (arith, c.if-stream-gt-LONGEST.false))
