use mathlib.Core.Path.{refl}
use native.Mathlib.Omega.{arith}
use Rattle.nominal.specs.Stretches.{ends}
use Rattle.nominal.proofs.Joining.{nominal_join, one-fill}
use Rattle.nominal.proofs.fill.skip_ones.Goals as goal

pub loop-at-init : goal.loop-at-init
loop-at-init c = ends

pub bounds-piece-at : goal.bounds-piece-at
bounds-piece-at c = omega arith

pub returns-then-piece-at-ne-FILL : goal.returns-then-piece-at-ne-FILL
returns-then-piece-at-ne-FILL c = record { stretch = c.loop-at.invariant; no_fill = λ b. omega (arith, b.is) }

pub overflow_add-at : goal.overflow_add-at
overflow_add-at c = omega arith

pub loop-at-smaller : goal.loop-at-smaller
loop-at-smaller c = omega arith

pub loop-at-preserved : goal.loop-at-preserved
loop-at-preserved c = nominal_join c.loop-at.invariant (one-fill refl record { inside = omega arith; is = c.if-piece-at-ne-FILL.false })

pub returns : goal.returns
returns c = record { stretch = c.loop-at.invariant; no_fill = λ b. omega (arith, b.inside) }
