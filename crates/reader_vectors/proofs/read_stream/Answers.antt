use mathlib.Core.Path.{sym, ◌∙◌}
use native.Mathlib.Omega.{arith}
use Rattle.reader_vectors.proofs.read_stream.Goals as goal

pub probe-r-requires : goal.probe-r-requires
probe-r-requires g c = c.requires

pub loop-at-init : goal.loop-at-init
loop-at-init g c = c.probe-r.auto.area ∙ c.requires

pub stepped-requires : goal.stepped-requires
stepped-requires g c = c.step.auto.area ∙ c.loop-at.invariant

pub loop-at-smaller : goal.loop-at-smaller
loop-at-smaller g c = omega (arith, c.in-Ok.ensures.onward c.loop-at-test.true)

pub loop-at-preserved : goal.loop-at-preserved
loop-at-preserved g c = c.stepped.auto.area ∙ c.step.auto.area ∙ c.loop-at.invariant

pub shape_of-area : goal.shape_of-area
shape_of-area g c = c.loop-at.invariant ∙ sym c.requires
