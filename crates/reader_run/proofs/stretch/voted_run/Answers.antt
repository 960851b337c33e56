-- `reader_run::stretch::voted_run` meets its contract: the words that are stored are placed by plain steps. Assumes nothing.
use mathlib.Core.Path.{refl}
use Prim.Native.Nat.{◌≤◌}
use native.Mathlib.Omega.{arith}
use Rattle.voted.proofs.Joining.{decided_far, decided_inside}
use Rattle.order.proofs.Rooms.{state_room}
use Rattle.reader_run.proofs.VotedOnward.{placed-groups, placed-weak, voted_onward}
use Rattle.reader_run.proofs.stretch.voted_run.Goals as goal
use Rattle.reader_run.proofs.stretch.voted_run.Goals.{Start}

few : (s : Start) → s.args.l.framing.placed ≤ 127
few s = (state_room _ s.requires.begun.order).in_framing.placed_max

pub overflow_sub-r : goal.overflow_sub-r
overflow_sub-r c = omega (arith, decided_far c.place-r.ensures.stretch)

pub overflow_sub-r-2 : goal.overflow_sub-r-2
overflow_sub-r-2 c = omega (arith, c.place-r.ensures.place_is)

pub after_voted-next-requires : goal.after_voted-next-requires
after_voted-next-requires c =
    let p = c.place-r.ensures in
    let far = decided_far p.stretch in
    let inside = decided_inside p.stretch c.requires.begun.fits.inside in
    let limit = c.requires.begun.fits.limit in
    ((state_room _ c.requires.begun.order).in_groups, omega arith, omega (arith, p.place_is), placed-weak p (omega arith))

pub returns : goal.returns
returns c =
    let p = c.place-r.ensures in
    let g = c.after_voted-next.ensures p.groups (placed-groups p refl) in
    record { reaches = rw p.place_is (voted_onward c.requires.begun c.requires.open_value.0 p c.requires.open_value.1 (few (goal.at.returns c).Start) g); open_value_2 = rw g c.requires.open_value.0 }
