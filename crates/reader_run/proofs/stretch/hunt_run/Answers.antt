-- `reader_run::stretch::hunt_run` meets its contract: the words that are passed are hunted by plain steps. Assumes nothing.
use native.Mathlib.Omega.{arith}
use Rattle.nominal.proofs.Joining.{nominal_inside, hunted_far}
use Rattle.reader_run.proofs.Onward.{none-onward, hunt-onward}
use Rattle.reader_run.proofs.stretch.hunt_run.Goals as goal

pub returns-then-l-ne0 : goal.returns-then-l-ne0
returns-then-l-ne0 c = record { reaches_any_frame = λ frame b. none-onward b; open_value_2 = c.requires.open_value.0 }

pub overflow_sub-r : goal.overflow_sub-r
overflow_sub-r c = omega (arith, hunted_far c.pass-r.ensures.hunted)

pub after_words-next-requires : goal.after_words-next-requires
after_words-next-requires c =
    let p = c.pass-r.ensures.hunted in
    let far = hunted_far p in
    let inside = nominal_inside p.stretch c.requires.groups_room.2.inside in
    (c.requires.groups_room.0, omega (arith, c.requires.groups_room.2.limit), omega arith)

pub overflow_add-f : goal.overflow_add-f
overflow_add-f c =
    let p = c.pass-r.ensures.hunted in
    let far = hunted_far p in
    let inside = nominal_inside p.stretch c.requires.groups_room.2.inside in
    omega (arith, c.requires.groups_room.1.hunted_max, c.requires.groups_room.2.limit)

pub returns : goal.returns
returns c =
    let p = c.pass-r.ensures.hunted in
    let g = c.after_words-next.ensures p.words record { count-is = p.count-is; last_is = λ z. p.last_is } in
    record { reaches_any_frame = λ frame b. hunt-onward b c.requires.open_value.0 p c.requires.open_value.1 c.if-l-ne0.false g; open_value_2 = rw g c.requires.open_value.0 }
