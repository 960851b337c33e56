use mathlib.Core.Path.{ap}
use Prim.Native.Nat.{◌<◌}
use native.Mathlib.Omega.{arith}
use Rattle.voted.specs.Copies.{copies_at}
use Rattle.voted.proofs.Lanes.{blank-gathered, more-gathered}
use Rattle.voted.proofs.blocks.gather.Goals as goal

pub stop_of-stop-requires : goal.stop_of-stop-requires
stop_of-stop-requires c = omega arith

pub loop-at-init : goal.loop-at-init
loop-at-init c = (omega arith, omega arith, blank-gathered c.requires.1)

pub is_spaced-requires : goal.is_spaced-requires
is_spaced-requires c = omega arith

pub returns-then-not-is_spaced : goal.returns-then-not-is_spaced
returns-then-not-is_spaced c =
    let l = c.loop-at in
    (l.invariant.2, l.invariant.1)

pub overflow_add-first : goal.overflow_add-first
overflow_add-first c = omega arith

pub bounds-piece-at : goal.bounds-piece-at
bounds-piece-at c = omega arith

pub bounds-first-k : goal.bounds-first-k
bounds-first-k c = omega arith

pub overflow_add-second : goal.overflow_add-second
overflow_add-second c = omega arith

pub bounds-piece-at-in-loop-at : goal.bounds-piece-at-in-loop-at
bounds-piece-at-in-loop-at c = omega arith

pub bounds-second-k : goal.bounds-second-k
bounds-second-k c = omega arith

pub overflow_add-third : goal.overflow_add-third
overflow_add-third c = omega arith

pub bounds-piece-at-in-loop-at-2 : goal.bounds-piece-at-in-loop-at-2
bounds-piece-at-in-loop-at-2 c = omega arith

pub bounds-third-k : goal.bounds-third-k
bounds-third-k c = omega arith

pub overflow_add-k : goal.overflow_add-k
overflow_add-k c = omega arith

pub overflow_add-at : goal.overflow_add-at
overflow_add-at c = omega arith

pub loop-at-smaller : goal.loop-at-smaller
loop-at-smaller c = omega arith

pub loop-at-preserved : goal.loop-at-preserved
loop-at-preserved c =
    let l = c.loop-at in
    let p = c.args.piece.now in
    let cell = c.is_spaced.ensures c.if-not-is_spaced.false in
    let at = l.invariant.0 in
    let few : l.k < 64 = omega arith in
    (omega arith, omega arith, more-gathered l.invariant.2 _ _ _ few (rw at at cell) (ap (copies_at p) at))

pub returns : goal.returns
returns c =
    let l = c.loop-at in
    (l.invariant.2, l.invariant.1)
