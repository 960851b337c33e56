-- `frames_state::wrote` meets its contract: where one frame is left to be written, it is counted. Assumes nothing.
use mathlib.Core.Path.{refl}
use native.Mathlib.Omega.{arith}
use Rattle.frames_state.proofs.wrote.Goals as goal

pub returns-then-s : goal.returns-then-s
returns-then-s c = λ due. absurd (omega (arith, due, c.if-s.true))

pub returns : goal.returns
returns c = λ due. (refl, due)
