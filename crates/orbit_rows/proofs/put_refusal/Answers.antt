-- `orbit_rows::put_refusal` meets its contract: 0 is for none. Assumes nothing.
use borrow.Author.Tests.{ne_eqb}
use Rattle.orbit_rows.proofs.put_refusal.Goals as goal

pub returns-then-number-eq0 : goal.returns-then-number-eq0
returns-then-number-eq0 c = rw c.if-number-eq0.true c.put_byte.ensures

pub returns : goal.returns
returns c = rw (ne_eqb _ 0 c.if-number-eq0.false) c.put_number_field.ensures
