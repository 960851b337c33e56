-- `layer_steps::groups::weaken` meets its contract: the count of the copy that is named is one more. Assumes nothing.
use Rattle.layer_steps.proofs.groups.weaken.Goals as goal

pub returns : goal.returns
returns c = rw (c.from-3.ensures, c.from-2.ensures, c.from.ensures)
