-- `layer_steps::minor::close_frame` meets its contract: each arm counts the class that it matches. Assumes nothing.
use Rattle.layer_steps.proofs.minor.close_frame.Goals as goal

pub returns-in-Good : goal.returns-in-Good
returns-in-Good c = rw (c.in-Good.is, c.requires.hunting_value)

pub returns-in-Damaged : goal.returns-in-Damaged
returns-in-Damaged c = rw (c.in-Damaged.is, c.requires.hunting_value)

pub returns-in-Unsynced : goal.returns-in-Unsynced
returns-in-Unsynced c = rw c.in-Unsynced.is
