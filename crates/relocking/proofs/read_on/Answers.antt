-- `relocking::read_on` meets its contract: the call's own promise. Assumes nothing.
use mathlib.Core.Path.{◌≡◌, ap}
use mathlib.Core.Bool.{Bool, ◌||◌}
use Rattle.labelling.specs.Calls.{take_refusal}
use Rattle.reader.specs.Shapes.{call_of}
use Rattle.relocking.proofs.Relocking.{call-accepted, locked-so, called-so, lock_answers}
use Rattle.relocking.proofs.read_on.Goals as goal
use Rattle.relocking.proofs.read_on.Goals.{After-take_to_lock}

-- after the call
module _ (w : After-take_to_lock) where
  accepted : take_refusal (call_of w.args.f.tally w.args.part.now w.args.area.now) ≡ 0
  accepted = call-accepted w.args.f w.args.part.now w.args.area.now w.requires

pub returns-in_err-r : goal.returns-in_err-r
returns-in_err-r c = absurd (lock_answers _ _ _ c.in_err-r.ensures (accepted (goal.at.returns-in_err-r c).After-take_to_lock))

pub returns : goal.returns
returns c =
    let a = c.args in
    let l = c.in_ok-r.r in
    let taken = accepted (goal.at.returns c).After-take_to_lock in
    called-so _ taken l _ c.in_ok-r.ensures (a.waits || l.locked) _ a.f.handed
    (ap (λ (x : Bool). a.waits || x) (locked-so _ taken l _ c.in_ok-r.ensures))
