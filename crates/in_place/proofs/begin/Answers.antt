-- `in_place::begin` meets its contract: the lead-in is placed, or nothing is done. Assumes nothing.
use Rattle.in_place.proofs.begin.Goals as goal

pub lead_in-requires : goal.lead_in-requires
lead_in-requires c = (c.requires.frame_len.0, c.requires.frame_len.1, c.requires.placed_value c.if-led.true)

pub returns-then-led : goal.returns-then-led
returns-then-led c = rw c.if-led.true c.lead_in.ensures

pub returns : goal.returns
returns c = rw c.if-led.false
