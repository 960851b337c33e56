-- `layer_steps::minor::class_of` meets its contract: sync is tested first, then the erasure. Assumes nothing.
use mathlib.Core.Path.{sym, ◌∙◌}
use Rattle.layer_steps.proofs.minor.class_of.Goals as goal

pub returns-then-not-synced : goal.returns-then-not-synced
returns-then-not-synced c = rw (sym c.synced.ensures ∙ c.if-not-synced.true)

pub returns-then-erasure : goal.returns-then-erasure
returns-then-erasure c = rw (sym c.synced.ensures ∙ c.if-not-synced.false, c.if-erasure.true)

pub returns : goal.returns
returns c = rw (sym c.synced.ensures ∙ c.if-not-synced.false, c.if-erasure.false)
