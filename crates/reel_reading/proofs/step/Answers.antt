-- `reel_reading::step` meets its contract: a call of 01's rules, or a step of the feeder that locks on a frame's own sync. Assumes nothing.
use native.Mathlib.Omega.{arith}
use Rattle.reel_reading.proofs.Laws.{step_as, steps-by_own_sync}
use Rattle.reel_reading.proofs.step.Goals as goal

pub returns-then-strict : goal.returns-then-strict
returns-then-strict c = step_as c.if-strict.true (grind arith) c.strict_step.ensures

pub returns : goal.returns
returns c = rw c.if-strict.false (steps-by_own_sync _ _ _ _ _ _ c.relock.ensures)
