-- `plain_steps::layers::byte_step` meets its contract: fewer than three bytes are open, or the byte is a third copy and gives a word. Assumes nothing.
use Rattle.labelling.specs.Votes.{rule_vote}
use Rattle.order.specs.Room.{StateRoom}
use Rattle.plain_steps.specs.Shapes.{state_with}
use Rattle.plain_steps.proofs.Joined.{byte_open, byte_closed}
use Rattle.order.proofs.Rooms.{state_room}
use Rattle.plain_steps.proofs.layers.byte_step.Goals as goal
use Rattle.plain_steps.proofs.layers.byte_step.Goals.{Start}

-- a state in order has room
room : (s : Start) → StateRoom (state_with s.args.l s.args.frame.now)
room s = state_room (state_with s.args.l s.args.frame.now) s.requires.frame_value

pub open_byte-next-requires : goal.open_byte-next-requires
open_byte-next-requires c = record {
  groups_room = (room (goal.at.open_byte-next-requires c).Start).in_groups;
  open_bound = c.if-l-lt3.true;
}

pub returns-then-l-lt3 : goal.returns-then-l-lt3
returns-then-l-lt3 c =
    let a = c.args in
    let vote = rule_vote a.rule in
    byte_open vote a.l a.frame.now a.area.now a.b c.if-l-lt3.true (c.open_byte-next.ensures vote)

pub close_group-next-requires : goal.close_group-next-requires
close_group-next-requires c = (room (goal.at.close_group-next-requires c).Start).in_groups

pub word_step-requires : goal.word_step-requires
word_step-requires c =
    let held = room (goal.at.word_step-requires c).Start in record {
      framing_room = (held.in_framing, held.in_runs);
      lent = c.requires.lent;
    }

pub returns : goal.returns
returns c =
    let a = c.args in
    byte_closed (rule_vote a.rule) a.l a.frame.now a.area.now a.b c.if-l-lt3.false c.vote_by-v.ensures c.close_group-next.ensures
    c.word_step.ensures
