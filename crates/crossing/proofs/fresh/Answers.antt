-- `crossing::fresh` meets its contract: what the reader's `fresh` returns is the fresh tally of the rule that is given. Assumes nothing.
use Rattle.crossing.proofs.Crossed.{fresh-crossed}
use Rattle.crossing.proofs.fresh.Goals as goal

pub returns : goal.returns
returns c =
    rw (c.put_tally.ensures.n_after, c.put_tally.ensures.frame_after) (rw c.code.ensures (fresh-crossed c.fresh-r.ensures))
