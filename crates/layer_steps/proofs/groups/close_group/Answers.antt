-- `layer_steps::groups::close_group` meets its contract: each arm counts the case of the word that it matches. Assumes nothing.
use Rattle.layer_steps.proofs.groups.close_group.Goals as goal

pub returns-in-Voted : goal.returns-in-Voted
returns-in-Voted c = rw (c.in-Voted.is, c.weaken-next.ensures)

pub returns-in-Erased : goal.returns-in-Erased
returns-in-Erased c = rw c.in-Erased.is
