-- `reader_run::stretch::open_last` meets its contract: SYNC and the copies after it, as far as the piece goes. Assumes nothing.
use native.Mathlib.Omega.{arith}
use Rattle.reader_run.proofs.Onward.{none-onward, last_onward}
use Rattle.reader_run.proofs.stretch.open_last.Goals as goal

pub returns-then-piece-at : goal.returns-then-piece-at
returns-then-piece-at c = λ frame b. none-onward b

pub returns-then-piece-at-ne-SYNC : goal.returns-then-piece-at-ne-SYNC
returns-then-piece-at-ne-SYNC c = λ frame b. none-onward b

pub returns : goal.returns
returns c =
    λ frame b.
    rw c.opened-next.ensures
    (last_onward b c.requires.open_value record { inside = omega (arith, c.if-piece-at.false); is = c.if-piece-at-ne-SYNC.false } c.byte_or-x.ensures
    c.byte_or-y.ensures _ (omega arith) (omega arith) (omega arith))
