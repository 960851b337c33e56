use mathlib.Core.Path.{sym, ◌∙◌}
use native.Mathlib.Omega.{arith}
use Rattle.nominal.proofs.Joining.{nominal_far, nominal_inside, one-group, group_there, stops_short, stops_unlike, stops_left}
use Rattle.nominal.proofs.Joining.{hunted_fill, hunted_word}
use Rattle.nominal.proofs.hunting.other_groups.Goals as goal

pub starts-end-requires : goal.starts-end-requires
starts-end-requires c = omega arith

pub loop-at-init : goal.loop-at-init
loop-at-init c =
    let filled = c.skip_fill-at.ensures in
    (λ i h. h, omega (arith, nominal_far filled.stretch), filled.no_fill)

pub overflow_add-x : goal.overflow_add-x
overflow_add-x c = omega arith

pub bounds-piece-at : goal.bounds-piece-at
bounds-piece-at c = omega arith

pub is_group-requires : goal.is_group-requires
is_group-requires c = omega arith

pub returns-then-not-is_group : goal.returns-then-not-is_group
returns-then-not-is_group c =
    let k = c.loop-at in
    let test = c.is_group in
    let begun = c.skip_fill-at.ensures.stretch in
    λ i h. record {
      hunted = k.invariant.0 i (hunted_fill h begun);
      stops = stops_unlike k.invariant.2 test.result (λ x g. test.ensures.told (group_there g)) c.if-not-is_group.true;
    }

pub returns-then-x : goal.returns-then-x
returns-then-x c =
    let k = c.loop-at in
    let begun = c.skip_fill-at.ensures.stretch in
    λ i h. record {
      hunted = k.invariant.0 i (hunted_fill h begun);
      stops = stops_left k.invariant.2 (λ y g. sym g.first.is ∙ c.if-x.true);
    }

pub overflow_add-count : goal.overflow_add-count
overflow_add-count c = omega arith

pub overflow_add-at : goal.overflow_add-at
overflow_add-at c = omega arith

pub loop-at-smaller : goal.loop-at-smaller
loop-at-smaller c =
    let filled = c.skip_fill-at-in-loop-at.ensures.stretch in
    omega (arith, nominal_far filled, nominal_inside filled (omega arith))

pub loop-at-preserved : goal.loop-at-preserved
loop-at-preserved c =
    let k = c.loop-at in
    let g = c.is_group.ensures.holds c.if-not-is_group.false in
    let filled = c.skip_fill-at-in-loop-at.ensures in (
      λ i h. hunted_fill (hunted_word (k.invariant.0 i h) (one-group g) (λ e. omega arith)) filled.stretch,
      omega (arith, nominal_far filled.stretch),
      filled.no_fill,
    )

pub returns : goal.returns
returns c =
    let k = c.loop-at in
    let begun = c.skip_fill-at.ensures.stretch in
    λ i h. record { hunted = k.invariant.0 i (hunted_fill h begun); stops = stops_short k.invariant.2 (omega arith) }
