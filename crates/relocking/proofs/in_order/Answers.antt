-- `relocking::in_order` meets its contract: its tests are the definition's, in that order. Assumes nothing.
use Rattle.relocking.specs.Relock.{feeder_in_order}
use Rattle.relocking.proofs.in_order.Goals as goal

pub returns : goal.returns
unfolding feeder_in_order
returns c = rw c.in_order.ensures
