use mathlib.Core.Path.{◌≡◌}
use Prim.Native.Nat.{◌+◌}
use native.Mathlib.Omega.{arith}
use lib.ListN.{get_or, set}
use Rattle.nominal.proofs.Joining.{one-group, stored-none, stored-word, stored-join}
use Rattle.nominal.proofs.placing.pairs.Goals as goal

pub starts-requires : goal.starts-requires
starts-requires c = omega arith

pub overflow_sub-start : goal.overflow_sub-start
overflow_sub-start c = omega arith

pub overflow_mul-start : goal.overflow_mul-start
overflow_mul-start c = omega arith

pub stop_of-stop-requires : goal.stop_of-stop-requires
stop_of-stop-requires c = omega arith

pub loop-at-init : goal.loop-at-init
loop-at-init c =
    record { turns = 0; at_is = omega arith; place_is = omega arith; stored = stored-none c.args.from c.args.start c.args.frame.now }

pub overflow_add-x : goal.overflow_add-x
overflow_add-x c = omega arith

pub bounds-piece-at : goal.bounds-piece-at
bounds-piece-at c = omega arith

pub overflow_add-y : goal.overflow_add-y
overflow_add-y c = omega arith

pub bounds-piece-at-in-loop-at : goal.bounds-piece-at-in-loop-at
bounds-piece-at-in-loop-at c = omega arith

pub is_pair-requires : goal.is_pair-requires
is_pair-requires c = omega arith

pub returns-then-not-is_pair : goal.returns-then-not-is_pair
returns-then-not-is_pair c = c.loop-at.invariant.stored

pub bounds-frame-p : goal.bounds-frame-p
bounds-frame-p c = omega arith

pub overflow_add-frame : goal.overflow_add-frame
overflow_add-frame c = omega arith

pub bounds-frame-p-in-loop-at : goal.bounds-frame-p-in-loop-at
bounds-frame-p-in-loop-at c = omega arith

pub overflow_add-p : goal.overflow_add-p
overflow_add-p c = omega arith

pub overflow_add-at : goal.overflow_add-at
overflow_add-at c = omega arith

pub loop-at-smaller : goal.loop-at-smaller
loop-at-smaller c = omega arith

pub loop-at-preserved : goal.loop-at-preserved
loop-at-preserved c =
    let k = c.loop-at in
    let x = get_or c.args.piece.now (k.at + 1) 0 in
    let both = c.is_pair.ensures.holds c.if-not-is_pair.false in
    let one = stored-join k.invariant.stored (stored-word k.p k.frame (omega arith) (one-group both.lower)) in
    let four : k.at + 4 + 4 ≡ k.at + 8 = omega arith in
    let two : k.p + 1 + 1 ≡ k.p + 2 = omega arith in
    record {
      turns = k.invariant.turns + 1;
      at_is = omega arith;
      place_is = omega arith;
      stored = rw (four, two) at (stored-join one (stored-word (k.p + 1) (set k.frame k.p x) (omega arith) (one-group both.upper)));
    }

pub returns : goal.returns
returns c = c.loop-at.invariant.stored
