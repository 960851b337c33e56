-- `reader_run::stretch::nominal_run` meets its contract: what is hunted leaves the frame as it was. Assumes nothing.
use Rattle.order.proofs.Rooms.{state_room}
use Rattle.reader_run.proofs.stretch.nominal_run.Goals as goal

pub hunt_run-requires : goal.hunt_run-requires
hunt_run-requires c =
    let room = state_room _ c.requires.begun.order in
    record { groups_room = (room.in_groups, room.in_framing, c.requires.begun.fits); open_value = (c.requires.open_value, c.if-l.true) }

pub returns-then-l : goal.returns-then-l
returns-then-l c =
    record { reaches = c.hunt_run.ensures.reaches_any_frame c.args.frame.now c.requires.begun; open_value_2 = c.hunt_run.ensures.open_value_2 }
