use Prim.Native.Nat.{◌+◌}
use native.Mathlib.Omega.{arith}
use Rattle.nominal.proofs.Digits.{eight_fill}
use Rattle.nominal.specs.Stretches.{ends}
use Rattle.nominal.proofs.Joining.{nominal_join, four-fill}
use Rattle.nominal.proofs.fill.skip_eights.Goals as goal

pub starts-end-requires : goal.starts-end-requires
starts-end-requires c = omega arith

pub loop-at-init : goal.loop-at-init
loop-at-init c = ends

pub eight-requires : goal.eight-requires
eight-requires c = omega arith

pub returns-then-eight-ne-EIGHT_FILL : goal.returns-then-eight-ne-EIGHT_FILL
returns-then-eight-ne-EIGHT_FILL c = c.loop-at.invariant

pub overflow_add-at : goal.overflow_add-at
overflow_add-at c = omega arith

pub loop-at-smaller : goal.loop-at-smaller
loop-at-smaller c = omega arith

pub loop-at-preserved : goal.loop-at-preserved
loop-at-preserved c =
    let k = c.loop-at in
    let f = eight_fill c.eight.ensures (omega arith) c.if-eight-ne-EIGHT_FILL.false in
    nominal_join k.invariant (nominal_join (four-fill {j = k.at + 4} (omega arith) f.0) (four-fill (omega arith) f.1))

pub returns : goal.returns
returns c = c.loop-at.invariant
