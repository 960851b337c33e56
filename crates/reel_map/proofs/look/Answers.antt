-- `reel_map::look` meets its contract: its tests are the definition's. Assumes nothing.
use borrow.Author.Tests.{eq-eqb, ne_eqb}
use Rattle.reel_map.proofs.look.Goals as goal

pub returns-then-m-eq0 : goal.returns-then-m-eq0
returns-then-m-eq0 c = rw (eq-eqb _ _ c.if-m-eq0.true)

pub returns-then-m-t : goal.returns-then-m-t
returns-then-m-t c = rw (ne_eqb _ 0 c.if-m-eq0.false, ne_eqb _ _ c.if-m-t.true)

pub returns : goal.returns
returns c = rw (ne_eqb _ 0 c.if-m-eq0.false, eq-eqb _ _ c.if-m-t.false)
