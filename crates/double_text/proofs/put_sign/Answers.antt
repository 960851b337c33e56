-- `double_text::put_sign` meets its contract. Assumes nothing.
use borrow.Author.Tests.{eq-eqb, ne_eqb}
use Rattle.double_text.proofs.put_sign.Goals as goal

pub returns-then-sign-eq0 : goal.returns-then-sign-eq0
returns-then-sign-eq0 c = rw (eq-eqb _ 0 c.if-sign-eq0.true) c.put.ensures

pub returns : goal.returns
returns c = rw (ne_eqb _ 0 c.if-sign-eq0.false) c.put-2.ensures
