-- `in_place::in_order` meets its contract: the numbers are tested whatever the frame, and a copy of the frame has its length. Assumes nothing.
use Rattle.in_place.proofs.in_order.Goals as goal

pub returns : goal.returns
returns c = record { value = c.in_order.ensures c.args.frame.now; frame_len = λ z. c.whole.ensures }
