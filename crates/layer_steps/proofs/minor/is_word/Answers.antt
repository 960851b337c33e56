-- `layer_steps::minor::is_word` meets its contract: each arm is the definition's case. Assumes nothing.
use Rattle.layer_steps.proofs.minor.is_word.Goals as goal

pub returns-in-Voted : goal.returns-in-Voted
returns-in-Voted c = rw c.in-Voted.is
