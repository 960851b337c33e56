use mathlib.Core.Path.{refl, ◌∙◌}
use native.Mathlib.Omega.{arith}
use Rattle.writer_vectors.proofs.reel.read_reel.Goals as goal

pub loop-at-init : goal.loop-at-init
loop-at-init c = refl

pub shape_of-area-in_default : goal.shape_of-area-in_default
shape_of-area-in_default c = c.step.auto.area ∙ c.loop-at.invariant

pub loop-at-smaller : goal.loop-at-smaller
loop-at-smaller c = omega (arith, c.in-Ok.ensures.onward c.loop-at-test.true)

pub loop-at-preserved : goal.loop-at-preserved
loop-at-preserved c = c.step.auto.area ∙ c.loop-at.invariant

pub shape_of-area : goal.shape_of-area
shape_of-area c = c.loop-at.invariant
