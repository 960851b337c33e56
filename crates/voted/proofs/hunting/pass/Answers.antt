-- `voted::hunting::pass` meets its contract: what the longest stretch holds is told, if it has a group. Assumes nothing.
use native.Mathlib.Omega.{arith}
use Rattle.voted.specs.Copies.{weak_in}
use Rattle.voted.proofs.Agreeing.{alike}
use Rattle.voted.proofs.Joining.{hunted_empty, hunted_some, hunt-summed, hunt-inside}
use Rattle.voted.proofs.hunting.pass.Goals as goal

pub returns-then-r-eq0 : goal.returns-then-r-eq0
returns-then-r-eq0 c =
    let sought = c.other_groups-r.ensures in
    rw c.none_passed.ensures (hunted_empty sought c.if-r-eq0.true)

pub weak_of-requires : goal.weak_of-requires
weak_of-requires c =
    let sought = c.other_groups-r.ensures in
    let gs = sought.going.groups in
    record { weak = weak_in gs; all = alike gs; summed = hunt-summed sought }

pub overflow_add-result : goal.overflow_add-result
overflow_add-result c = omega (arith, hunt-inside c.other_groups-r.ensures c.if-r-eq0.false)

pub bounds-piece-last : goal.bounds-piece-last
bounds-piece-last c = omega (arith, hunt-inside c.other_groups-r.ensures c.if-r-eq0.false)

pub overflow_add-result-2 : goal.overflow_add-result-2
overflow_add-result-2 c = omega (arith, hunt-inside c.other_groups-r.ensures c.if-r-eq0.false)

pub bounds-piece-last-2 : goal.bounds-piece-last-2
bounds-piece-last-2 c = omega (arith, hunt-inside c.other_groups-r.ensures c.if-r-eq0.false)

pub returns : goal.returns
returns c =
    let sought = c.other_groups-r.ensures in
    hunted_some sought c.if-r-eq0.false (c.weak_of.ensures _ _ (hunt-summed sought))
