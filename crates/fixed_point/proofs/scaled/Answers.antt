-- `fixed_point::scaled` meets its contract: zero has all bits 0, and any other count its sign and its size. Assumes nothing.
use native.Mathlib.Omega.{arith}
use Rattle.fixed_point.proofs.Exactness.{promised_zero, promised_positive, promised_negative}
use Rattle.fixed_point.proofs.scaled.Goals as goal

pub returns-then-count-eq0 : goal.returns-then-count-eq0
returns-then-count-eq0 c = promised_zero c.args.places c.args.count (omega arith) (omega arith) c.if-count-eq0.true

pub returns-then-count-lt-SIGN : goal.returns-then-count-lt-SIGN
returns-then-count-lt-SIGN c =
    let a = c.args in
    promised_positive a.places a.count (omega arith) (omega arith) _ (omega arith) (omega arith) (rw c.from.ensures at c.double.ensures)

pub returns : goal.returns
returns c =
    let a = c.args in
    promised_negative a.places a.count (omega arith) (omega arith) _ (omega arith) (rw c.from-2.ensures at c.double-2.ensures)
