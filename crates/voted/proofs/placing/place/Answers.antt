-- `voted::placing::place` meets its contract: what the longest stretch holds is told, if it has a group. Assumes nothing.
use mathlib.Core.Path.{refl}
use native.Mathlib.Omega.{arith}
use Rattle.voted.specs.Copies.{weak_in}
use Rattle.voted.proofs.Agreeing.{alike}
use Rattle.voted.proofs.Joining.{past_quiet, placed-none, placed-empty, placed-some, run-summed, last_inside}
use Rattle.voted.proofs.placing.place.Goals as goal

pub returns-then-start-ge-LAST_PLACE : goal.returns-then-start-ge-LAST_PLACE
returns-then-start-ge-LAST_PLACE c =
    let went = c.skip-skipped.ensures in
    rw c.no_group.ensures
    (placed-none (past_quiet went.quiet) (λ h. (went.stops (omega arith), λ g s v. c.if-start-ge-LAST_PLACE.true)))

pub returns-then-r-start : goal.returns-then-r-start
returns-then-r-start c = rw c.no_group-then-r-start.ensures (placed-empty c.longest-r.ensures c.if-r-start.true)

pub weak_of-requires : goal.weak_of-requires
weak_of-requires c =
    let l = c.longest-r.ensures in
    let gs = l.kept.groups in
    record { weak = weak_in gs; all = alike gs; summed = run-summed l c.if-r-start.false refl }

pub overflow_add-result : goal.overflow_add-result
overflow_add-result c = omega (arith, last_inside c.longest-r.ensures c.if-r-start.false)

pub bounds-piece-last : goal.bounds-piece-last
bounds-piece-last c = omega (arith, last_inside c.longest-r.ensures c.if-r-start.false)

pub overflow_add-result-2 : goal.overflow_add-result-2
overflow_add-result-2 c = omega (arith, last_inside c.longest-r.ensures c.if-r-start.false)

pub bounds-piece-last-2 : goal.bounds-piece-last-2
bounds-piece-last-2 c = omega (arith, last_inside c.longest-r.ensures c.if-r-start.false)

pub returns : goal.returns
returns c =
    let l = c.longest-r.ensures in
    placed-some l c.if-r-start.false (c.weak_of.ensures _ _ (run-summed l c.if-r-start.false refl))
