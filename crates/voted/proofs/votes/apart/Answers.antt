-- `voted::votes::apart` meets its contract: equal bytes differ in nothing. Assumes nothing.
use native.Mathlib.Omega.{arith}
use Rattle.voted.proofs.Agreeing.{apart_none, apart-few}
use Rattle.voted.proofs.votes.apart.Goals as goal

pub overflow_mul-result : goal.overflow_mul-result
overflow_mul-result c =
    let a = c.args in
    rw (c.from.ensures, c.from-2.ensures, c.from-3.ensures, c.from-4.ensures)
    (omega (arith, (apart-few a.a a.b a.c (omega arith) (omega arith) (omega arith)).0))

pub overflow_mul-result-2 : goal.overflow_mul-result-2
overflow_mul-result-2 c =
    let a = c.args in
    rw (c.from.ensures, c.from-2.ensures, c.from-3.ensures, c.from-4.ensures, c.from-5.ensures, c.from-6.ensures)
    (omega (arith, (apart-few a.a a.b a.c (omega arith) (omega arith) (omega arith)).1))

pub returns : goal.returns
returns c =
    let a = c.args in
    λ v.
    rw (c.from.ensures, c.from-2.ensures, c.from-3.ensures, c.from-4.ensures, c.from-5.ensures, c.from-6.ensures)
    (apart_none a.a a.b a.c v)
