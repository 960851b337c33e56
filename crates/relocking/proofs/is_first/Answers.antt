-- `relocking::is_first` meets its contract: each arm is the definition's case. Assumes nothing.
use Rattle.relocking.proofs.is_first.Goals as goal

pub returns-in-Voted : goal.returns-in-Voted
returns-in-Voted c = rw c.in-Voted.is
