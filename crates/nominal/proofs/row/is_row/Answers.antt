use mathlib.Core.Path.{◌≡◌}
use native.Mathlib.Omega.{arith}
use borrow.Author.Tests.{eqb-true}
use Rattle.nominal.specs.Stretches.{Belongs}
use Rattle.nominal.proofs.Rows.{or_none, belong_more, row_of}
use Rattle.nominal.proofs.row.is_row.Goals as goal

pub loop-k-init : goal.loop-k-init
loop-k-init c = (omega arith, λ e m h. absurd (omega arith))

pub overflow_add-at : goal.overflow_add-at
overflow_add-at c = omega arith

pub bounds-piece-at : goal.bounds-piece-at
bounds-piece-at c = omega arith

pub overflow_add-at-in-loop-k : goal.overflow_add-at-in-loop-k
overflow_add-at-in-loop-k c = omega arith

pub overflow_add-at-in-loop-k-2 : goal.overflow_add-at-in-loop-k-2
overflow_add-at-in-loop-k-2 c = omega arith

pub bounds-piece-at-in-loop-k : goal.bounds-piece-at-in-loop-k
bounds-piece-at-in-loop-k c = omega arith

pub wrong-bad-requires : goal.wrong-bad-requires
wrong-bad-requires c = tt

pub overflow_add-k : goal.overflow_add-k
overflow_add-k c = omega arith

pub loop-k-smaller : goal.loop-k-smaller
loop-k-smaller c = omega arith

pub loop-k-preserved : goal.loop-k-preserved
loop-k-preserved c =
    let so_far = c.loop-k.invariant.1 in
    let more = belong_more Belongs 4 c.args.piece.now c.args.at c.loop-k.k in
    (omega arith, λ e. let none = or_none c.loop-k.bad c.wrong-bad.result e in more (so_far none.0) (c.wrong-bad.ensures none.1))

pub returns : goal.returns
returns c =
    let k = c.loop-k in
    let whole : k.k ≡ 64 = omega arith in
    λ e. row_of c.args.piece.now c.args.at c.requires (rw whole at (k.invariant.1 (eqb-true _ _ e)))
