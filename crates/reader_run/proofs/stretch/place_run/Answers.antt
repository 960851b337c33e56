-- `reader_run::stretch::place_run` meets its contract: the words that are stored are placed by plain steps. Assumes nothing.
use mathlib.Core.Path.{refl}
use Prim.Native.Nat.{◌≤◌}
use native.Mathlib.Omega.{arith}
use Rattle.nominal.proofs.Joining.{nominal_far, nominal_inside}
use Rattle.order.proofs.Rooms.{state_room}
use Rattle.reader_run.proofs.Onward.{placed-words, place-onward}
use Rattle.reader_run.proofs.stretch.place_run.Goals as goal
use Rattle.reader_run.proofs.stretch.place_run.Goals.{Start}

few : (s : Start) → s.args.l.framing.placed ≤ 127
few s = (state_room _ s.requires.begun.order).in_framing.placed_max

pub overflow_sub-r : goal.overflow_sub-r
overflow_sub-r c = omega (arith, nominal_far c.place-r.ensures.stored.stretch)

pub last_of-requires : goal.last_of-requires
last_of-requires c = c.place-r.ensures.stored.room (few (goal.at.last_of-requires c).Start)

pub after_words-next-requires : goal.after_words-next-requires
after_words-next-requires c =
    let p = c.place-r.ensures.stored in
    let far = nominal_far p.stretch in
    let inside = nominal_inside p.stretch c.requires.begun.fits.inside in
    ((state_room _ c.requires.begun.order).in_groups, omega (arith, c.requires.begun.fits.limit), omega (arith, p.place_is))

pub returns : goal.returns
returns c =
    let p = c.place-r.ensures.stored in
    let words = placed-words c.requires.begun p _ _ refl (few (goal.at.returns c).Start) c.last_of.ensures in
    let g = c.after_words-next.ensures p.words words in
    record { reaches = rw p.place_is (place-onward c.requires.begun c.requires.open_value.0 p c.requires.open_value.1 (few (goal.at.returns c).Start) g); open_value_2 = rw g c.requires.open_value.0 }
