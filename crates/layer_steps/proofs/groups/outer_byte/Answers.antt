-- `layer_steps::groups::outer_byte` meets its contract: its tests pick the case of `outside`. Assumes nothing.
use borrow.Author.Tests.{eq-eqb, ne_eqb}
use Rattle.labelling.specs.Words.{outside}
use Rattle.layer_steps.proofs.groups.outer_byte.Goals as goal

pub returns-then-b-eq-SYNC : goal.returns-then-b-eq-SYNC
unfolding outside
returns-then-b-eq-SYNC c = rw (eq-eqb _ _ c.if-b-eq-SYNC.true)

pub returns-then-b-eq-FILL : goal.returns-then-b-eq-FILL
unfolding outside
returns-then-b-eq-FILL c = rw (ne_eqb _ _ c.if-b-eq-SYNC.false, eq-eqb _ _ c.if-b-eq-FILL.true, c.requires.open_value)

pub returns : goal.returns
unfolding outside
returns c = rw (ne_eqb _ _ c.if-b-eq-SYNC.false, ne_eqb _ _ c.if-b-eq-FILL.false, c.requires.open_value)
