-- `voted::votes::agreed` meets its contract. Assumes nothing.
use native.Mathlib.Omega.{arith}
use lib.Dec.{eqb}
use Rattle.voted.proofs.Agreeing.{bit-few}
use Rattle.voted.proofs.votes.agreed.Goals as goal

pub overflow_mul-result : goal.overflow_mul-result
overflow_mul-result c = omega (arith, bit-few (eqb c.args.a c.args.c))

pub overflow_add-result : goal.overflow_add-result
overflow_add-result c = omega (arith, bit-few (eqb c.args.a c.args.b), bit-few (eqb c.args.a c.args.c))

pub overflow_mul-result-2 : goal.overflow_mul-result-2
overflow_mul-result-2 c = omega (arith, bit-few (eqb c.args.b c.args.c))

pub overflow_add-result-2 : goal.overflow_add-result-2
overflow_add-result-2 c =
    let a = c.args in
    omega (arith, bit-few (eqb a.a a.b), bit-few (eqb a.a a.c), bit-few (eqb a.b a.c))
