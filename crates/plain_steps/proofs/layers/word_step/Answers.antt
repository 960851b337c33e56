-- `plain_steps::layers::word_step` meets its contract: the word is hunted, or placed, and then the frame is closed or not. Assumes nothing.
use lib.ListN.{length-set}
use Rattle.plain_steps.proofs.Joined.{word-hunted, word-filled, word-closed}
use Rattle.plain_steps.proofs.layers.word_step.Goals as goal

pub returns-then-l : goal.returns-then-l
returns-then-l c =
    let a = c.args in
    word-hunted a.l a.w a.frame.now a.area.now c.if-l.true c.hunt-next.ensures

pub end_frame-ended-requires : goal.end_frame-ended-requires
end_frame-ended-requires c = record {
  runs_room = c.requires.framing_room.1;
  lent = record {
    frame-length = simp (c.place-framed.ensures.frame_is, length-set) c.requires.lent.frame-length;
    area_length = c.requires.lent.area_length;
  };
}

pub returns-in-None : goal.returns-in-None
returns-in-None c =
    let a = c.args in
    word-filled a.l a.w a.frame.now a.area.now c.if-l.false c.place-framed.ensures c.in-None.is

pub returns-in-Some : goal.returns-in-Some
returns-in-Some c =
    let a = c.args in
    word-closed a.l a.w a.frame.now a.area.now c.if-l.false c.place-framed.ensures c.in-Some.is
    c.end_frame-ended.ensures
