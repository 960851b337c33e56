-- `votes::vote` meets its contract: where two copies are equal the vote by bits gives its word, else there is none. Assumes nothing.
use mathlib.Core.Path.{◌∙◌}
use native.Mathlib.Omega.{arith}
use lib.Dec.{eqb}
use Rattle.labelling.specs.Words.{weak_copy}
use Rattle.votes.proofs.Voting.{numbered-few, flag-few, any_equal, none_equal, agreed, split}
use Rattle.votes.proofs.vote.Goals as goal

pub overflow_add-by_bits : goal.overflow_add-by_bits
unfolding weak_copy
overflow_add-by_bits c =
    let a = c.args in
    let few = numbered-few (eqb a.a a.b) (eqb a.a a.c) (eqb a.b a.c) in
    record { fits = omega (arith, few, c.vote_bits-by_bits.ensures.answer_is.weak_is, c.from.ensures, flag-few (eqb a.a a.b)) }

pub returns-then-by_bits-from-ne0 : goal.returns-then-by_bits-from-ne0
unfolding weak_copy
returns-then-by_bits-from-ne0 c =
    let a = c.args in
    let by_bits = c.vote_bits-by_bits.ensures.answer_is in
    let equal = any_equal (eqb a.a a.b) (eqb a.a a.c) (eqb a.b a.c)
    (λ z. c.if-by_bits-from-ne0.true (omega (arith, z, by_bits.weak_is, c.from.ensures))) in
    record { word-is = by_bits.word-is ∙ agreed a.a a.b a.c equal; weak_is = by_bits.weak_is }

pub returns : goal.returns
unfolding weak_copy
returns c =
    let a = c.args in
    let by_bits = c.vote_bits-by_bits.ensures.answer_is in
    let different = none_equal (eqb a.a a.b) (eqb a.a a.c) (eqb a.b a.c)
    (omega (arith, c.if-by_bits-from-ne0.false, by_bits.weak_is, c.from.ensures)) in
    record { word-is = split a.a a.b a.c different; weak_is = by_bits.weak_is }
