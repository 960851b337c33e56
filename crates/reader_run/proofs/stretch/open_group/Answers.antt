-- `reader_run::stretch::open_group` meets its contract: where a whole group stands, the first three bytes of it; where the piece ends within one, what is
-- there of it. Assumes nothing.
use mathlib.Core.Path.{refl}
use native.Mathlib.Omega.{arith}
use Rattle.reader_run.proofs.Onward.{none-onward, opened-onward}
use Rattle.reader_run.proofs.stretch.open_group.Goals as goal

pub returns-then-piece-at-lt4 : goal.returns-then-piece-at-lt4
returns-then-piece-at-lt4 c = c.open_last.ensures

pub returns-then-piece-at-ne-SYNC : goal.returns-then-piece-at-ne-SYNC
returns-then-piece-at-ne-SYNC c = λ frame b. none-onward b

pub returns : goal.returns
returns c =
    let room = c.if-piece-at-lt4.false in
    λ frame b.
    rw c.opened-next.ensures
    (opened-onward b c.requires.open_value record { inside = omega (arith, room); is = c.if-piece-at-ne-SYNC.false }
    record { inside = omega (arith, room); is = refl } record { inside = omega (arith, room); is = refl })
