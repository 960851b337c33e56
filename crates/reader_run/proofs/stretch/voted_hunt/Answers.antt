-- `reader_run::stretch::voted_hunt` meets its contract: the words that are passed are hunted by plain steps. Assumes nothing.
use native.Mathlib.Omega.{arith}
use Rattle.voted.proofs.Joining.{decided_inside}
use Rattle.reader_run.proofs.Onward.{none-onward}
use Rattle.reader_run.proofs.VotedOnward.{hunted_groups, hunted_weak, hunted_far, hunted_onward}
use Rattle.reader_run.proofs.stretch.voted_hunt.Goals as goal

pub returns-then-l-ne0 : goal.returns-then-l-ne0
returns-then-l-ne0 c = record { reaches_any_frame = λ frame b. none-onward b; open_value_2 = c.requires.open_value.0 }

pub overflow_sub-r : goal.overflow_sub-r
overflow_sub-r c = omega (arith, hunted_far c.pass-r.ensures)

pub after_voted-next-requires : goal.after_voted-next-requires
after_voted-next-requires c =
    let p = c.pass-r.ensures in
    let far = hunted_far p in
    let inside = decided_inside p.stretch c.requires.groups_room.2.inside in
    let limit = c.requires.groups_room.2.limit in
    (c.requires.groups_room.0, omega arith, omega arith, hunted_weak p (omega (arith, p.count-is)))

pub overflow_add-f : goal.overflow_add-f
overflow_add-f c =
    let p = c.pass-r.ensures in
    let far = hunted_far p in
    let inside = decided_inside p.stretch c.requires.groups_room.2.inside in
    omega (arith, c.requires.groups_room.1.hunted_max, c.requires.groups_room.2.limit)

pub returns : goal.returns
returns c =
    let p = c.pass-r.ensures in
    let g = c.after_voted-next.ensures p.groups (hunted_groups p) in
    record { reaches_any_frame = λ frame b. hunted_onward b c.requires.open_value.0 p c.requires.open_value.1 c.if-l-ne0.false g; open_value_2 = rw g c.requires.open_value.0 }
