use Rattle.std.proofs.Common.{◌≡◌, ◌∙◌, refl, length}
use native.Mathlib.Omega.{arith}
use Rattle.std.proofs.lemmas.Result.{err_from_is_err_and}
use Rattle.feeding.proofs.Reading.{begins, goes_on, further, ends, stops}
use Rattle.feeding.proofs.feed.Goals as goal
use Rattle.feeding.proofs.feed.Goals.{After-next}

pub loop-f-init : goal.loop-f-init
loop-f-init c = (begins _ _ _, refl)

-- after a call
module _ (w : After-next) where
  kept : length w.next.new.area ≡ length w.loop-f.area
  kept = w.next.auto.area

pub returns-in_err-f : goal.returns-in_err-f
returns-in_err-f c =
    let p = err_from_is_err_and c.from_residual.result c.from_residual.ensures.1 in
    rw (p.1, p.2) (stops _ c.loop-f.invariant.0 c.in_err-f.ensures)

pub returns-then-stream-f : goal.returns-then-stream-f
returns-then-stream-f c =
    ends c.loop-f.invariant.0 c.in_ok-f.ensures (kept (goal.at.returns-then-stream-f c).After-next) (omega (arith, c.if-stream-f.true))

pub loop-f-smaller : goal.loop-f-smaller
loop-f-smaller c = further c.loop-f.invariant.0 c.in_ok-f.ensures c.if-stream-f.false

pub loop-f-preserved : goal.loop-f-preserved
loop-f-preserved c =
    let same = kept (goal.at.loop-f-preserved c).After-next in
    (goes_on c.loop-f.invariant.0 c.in_ok-f.ensures same, same ∙ c.loop-f.invariant.1)
