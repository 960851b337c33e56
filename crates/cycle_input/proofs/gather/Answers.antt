use Rattle.std.proofs.Common.{refl, []}
use native.Mathlib.Omega.{arith}
use Rattle.cycle_frames.specs.Gathering.{begun}
use Rattle.cycle_input.proofs.Laws.{not_whole, went_on, came_whole}
use borrow.Author.Rules.{rules}
use Rattle.cycle_input.proofs.gather.Goals as goal

pub loop-frames-init : goal.loop-frames-init
loop-frames-init g c = (record { frames = []; cycles = []; left = 0; so_far = begun _ }, refl, refl, omega arith)

pub returns-in-Err : goal.returns-in-Err
returns-in-Err g c = not_whole _ c.ended.ensures

pub returns-then-brought : goal.returns-then-brought
returns-then-brought g c =
    came_whole c.loop-frames.invariant.0 c.next.ensures c.in-Ok-next.is c.if-brought.true _ _ (omega (arith, c.found.ensures))

pub loop-frames-smaller : goal.loop-frames-smaller
loop-frames-smaller g c = omega arith

pub loop-frames-preserved : goal.loop-frames-preserved
loop-frames-preserved g c =
    (went_on c.loop-frames.invariant.0 c.next.ensures c.in-Ok-next.is c.if-brought.false, search rules, search rules, omega arith)

pub returns : goal.returns
returns g c = not_whole _ c.ended-2.ensures
