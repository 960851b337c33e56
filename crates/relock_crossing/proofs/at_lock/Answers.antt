-- `relock_crossing::at_lock` meets its contract: what stands before the next group, or the decision. Assumes nothing.
use mathlib.Core.Bool.{true}
use mathlib.Core.Path.{refl, sym}
use native.Mathlib.Omega.{arith}
use lib.ListN.{take}
use lib.Seq.{length-take-le}
use Rattle.relocking.specs.Relock.{before_group}
use Rattle.relocking.proofs.Moves.{reads_before}
use Rattle.relock_crossing.proofs.Steps.{ready_waiting, step_reads}
use Rattle.relock_crossing.proofs.at_lock.Goals as goal

pub slice_bounds-take_to_lock-end : goal.slice_bounds-take_to_lock-end
slice_bounds-take_to_lock-end c = sym (length-take-le _ _ c.before_group-k.ensures.1)

pub returns-then-k-gt0 : goal.returns-then-k-gt0
returns-then-k-gt0 c =
    let piece = c.args.piece.now in
    let k = c.before_group-k.ensures in
    let within = rw k.0 at k.1 in
    let part = take (before_group piece) piece in
    rw c.read.ensures
    (step_reads _ _ _ piece _ _ (ready_waiting _ _ _ _ c.requires) part (omega (arith, length-take-le (before_group piece) piece within)) true _ _ _ _
    (rw k.0 at c.take_to_lock-r.ensures)
    (λ a. reads_before _ piece _ _ a (rw c.requires.awaits refl) (omega (arith, k.0, c.if-k-gt0.true)) within))
