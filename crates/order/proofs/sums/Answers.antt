-- `order::sums` meets its contract: the three sums are the definition's, and what is added is within the limit. Assumes nothing.
use Rattle.order.proofs.sums.Goals as goal

pub returns : goal.returns
returns c = rw (c.bytes_sum.ensures, c.words_sum.ensures, c.frames_sum.ensures)
