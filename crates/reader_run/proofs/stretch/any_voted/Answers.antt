-- `reader_run::stretch::any_voted` meets its contract: what is hunted leaves the frame as it was. Assumes nothing.
use Rattle.order.proofs.Rooms.{state_room}
use Rattle.reader_run.proofs.Onward.{none-onward}
use Rattle.reader_run.proofs.stretch.any_voted.Goals as goal

pub returns-then-not-group_stands : goal.returns-then-not-group_stands
returns-then-not-group_stands c = record { reaches = none-onward c.requires.begun; open_value_2 = c.requires.open_value }

pub voted_hunt-requires : goal.voted_hunt-requires
voted_hunt-requires c =
    let room = state_room _ c.requires.begun.order in
    record { groups_room = (room.in_groups, room.in_framing, c.requires.begun.fits); open_value = (c.requires.open_value, c.if-l.true) }

pub returns-then-l : goal.returns-then-l
returns-then-l c =
    record { reaches = c.voted_hunt.ensures.reaches_any_frame c.args.frame.now c.requires.begun; open_value_2 = c.voted_hunt.ensures.open_value_2 }

pub returns-then-l-eq-LAST_PLACE : goal.returns-then-l-eq-LAST_PLACE
returns-then-l-eq-LAST_PLACE c = record { reaches = none-onward c.requires.begun; open_value_2 = c.requires.open_value }
