use mathlib.Core.Path.{refl}
use native.Mathlib.Nat.{add-zero}
use native.Mathlib.Omega.{arith}
use Rattle.quiet.proofs.Joining.{quiet_join, one-fill_quiet, one-stray}
use Rattle.quiet.proofs.skip_bytes.Goals as goal

pub loop-at-init : goal.loop-at-init
loop-at-init c = (λ i h. h, c.requires)

pub bounds-piece-at : goal.bounds-piece-at
bounds-piece-at c = omega arith

pub returns-then-b-eq-SYNC : goal.returns-then-b-eq-SYNC
returns-then-b-eq-SYNC c =
    let k = c.loop-at in
    λ i h. record { quiet = k.invariant.0 i h; stops = λ l. record { inside = l; is = c.if-b-eq-SYNC.true } }

pub overflow_add-at : goal.overflow_add-at
overflow_add-at c = omega arith

pub overflow_add-stray : goal.overflow_add-stray
overflow_add-stray c = omega arith

pub loop-at-smaller-then-b-ne-FILL : goal.loop-at-smaller-then-b-ne-FILL
loop-at-smaller-then-b-ne-FILL c = omega arith

pub loop-at-preserved-then-b-ne-FILL : goal.loop-at-preserved-then-b-ne-FILL
loop-at-preserved-then-b-ne-FILL c =
    let k = c.loop-at in
    (λ i h. quiet_join (k.invariant.0 i h) (one-stray record { inside = omega arith; is = refl } (λ e. omega arith) (λ e. omega arith)), omega arith)

pub loop-at-smaller : goal.loop-at-smaller
loop-at-smaller c = omega arith

pub loop-at-preserved : goal.loop-at-preserved
loop-at-preserved c =
    let k = c.loop-at in
    (λ i h. rw (add-zero k.stray) at (quiet_join (k.invariant.0 i h) (one-fill_quiet record { inside = omega arith; is = omega arith })), omega arith)

pub returns : goal.returns
returns c =
    let k = c.loop-at in
    λ i h. record { quiet = k.invariant.0 i h; stops = λ l. absurd (omega arith) }
