-- `voted::votes::weak_of` meets its contract: the three counts are taken apart, and groups of three equal copies are counted in each. Assumes
-- nothing.
use native.Mathlib.Omega.{arith}
use Rattle.voted.proofs.Agreeing.{weak_left, same-weak}
use Rattle.voted.proofs.votes.weak_of.Goals as goal

pub overflow_sub-all_three : goal.overflow_sub-all_three
overflow_sub-all_three c = (weak_left c.requires.summed).enough

pub overflow_sub-result : goal.overflow_sub-result
overflow_sub-result c =
    let left = weak_left c.requires.summed in
    omega (arith, left.enough_x, left.enough_y, left.enough_z)

pub overflow_sub-result-2 : goal.overflow_sub-result-2
overflow_sub-result-2 c =
    let left = weak_left c.requires.summed in
    omega (arith, left.enough_x, left.enough_y, left.enough_z)

pub overflow_sub-result-3 : goal.overflow_sub-result-3
overflow_sub-result-3 c =
    let left = weak_left c.requires.summed in
    omega (arith, left.enough_x, left.enough_y, left.enough_z)

pub returns : goal.returns
returns c = λ w all h.
    let left = weak_left h in
    same-weak left.first-is left.second_is left.third_is
