use Prim.Native.Nat.{◌+◌}
use native.Mathlib.Omega.{arith}
use Rattle.nominal.proofs.Joining.{nominal_far, nominal_inside, one-group, group_there, stops_short, stops_unlike, stops_left}
use Rattle.nominal.proofs.Joining.{stored-fill, stored-word, stored-join}
use Rattle.nominal.proofs.placing.groups.Goals as goal

pub starts-end-requires : goal.starts-end-requires
starts-end-requires c = omega arith

pub loop-at-init : goal.loop-at-init
loop-at-init c =
    let filled = c.skip_fill-at.ensures in
    (stored-fill c.args.start c.args.frame.now filled.stretch, omega arith, filled.no_fill)

pub returns-then-p-ge-LAST_PLACE : goal.returns-then-p-ge-LAST_PLACE
returns-then-p-ge-LAST_PLACE c =
    let k = c.loop-at in
    record { stored = k.invariant.0; stops = stops_left k.invariant.2 (λ x g. omega arith) }

pub overflow_add-x : goal.overflow_add-x
overflow_add-x c = omega arith

pub bounds-piece-at : goal.bounds-piece-at
bounds-piece-at c = omega arith

pub is_group-requires : goal.is_group-requires
is_group-requires c = omega arith

pub returns-then-not-is_group : goal.returns-then-not-is_group
returns-then-not-is_group c =
    let k = c.loop-at in
    let test = c.is_group in
    record {
      stored = k.invariant.0;
      stops = stops_unlike k.invariant.2 test.result (λ x g. test.ensures.told (group_there g)) c.if-not-is_group.true;
    }

pub bounds-frame-p : goal.bounds-frame-p
bounds-frame-p c = omega arith

pub overflow_add-p : goal.overflow_add-p
overflow_add-p c = omega arith

pub overflow_add-at : goal.overflow_add-at
overflow_add-at c = omega arith

pub loop-at-smaller : goal.loop-at-smaller
loop-at-smaller c =
    let filled = c.skip_fill-at-in-loop-at.ensures.stretch in
    omega (arith, nominal_far filled, nominal_inside filled (omega arith))

pub loop-at-preserved : goal.loop-at-preserved
loop-at-preserved c =
    let k = c.loop-at in
    let g = c.is_group.ensures.holds c.if-not-is_group.false in
    let one = stored-join k.invariant.0 (stored-word k.p k.frame (omega arith) (one-group g)) in
    let filled = c.skip_fill-at-in-loop-at.ensures in
    (stored-join one (stored-fill (k.p + 1) _ filled.stretch), omega arith, filled.no_fill)

pub returns : goal.returns
returns c =
    let k = c.loop-at in
    record { stored = k.invariant.0; stops = stops_short k.invariant.2 (omega arith) }
