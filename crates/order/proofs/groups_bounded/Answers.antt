-- `order::groups_bounded` meets its contract: its tests are the definition's. Assumes nothing.
use Rattle.order.proofs.groups_bounded.Goals as goal

pub returns : goal.returns
returns c = rw c.weak_bounded.ensures
