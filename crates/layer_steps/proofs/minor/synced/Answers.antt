-- `layer_steps::minor::synced` meets its contract: its tests are the definition's. Assumes nothing.
use Rattle.labelling.specs.Machine.{synced_bytes}
use borrow.Author.Rules.{rules}
use Rattle.layer_steps.proofs.minor.synced.Goals as goal

pub returns : goal.returns
unfolding synced_bytes
returns c = search rules
