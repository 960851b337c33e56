use mathlib.Core.Path.{sym, ◌∙◌}
use native.Mathlib.Omega.{arith}
use borrow.Author.Tests.{ltb-false}
use Rattle.base.specs.Lists.{count_by}
use Rattle.quiet.specs.Quiet.{ends, block, is_sync}
use Rattle.quiet.proofs.Joining.{quiet_join, block-quiet}
use Rattle.quiet.proofs.skip_blocks.Goals as goal

pub loop-at-init : goal.loop-at-init
loop-at-init c = (ends, c.requires, omega arith)

pub overflow_sub-piece : goal.overflow_sub-piece
overflow_sub-piece c = omega arith

pub has_sync-requires : goal.has_sync-requires
has_sync-requires c = omega arith

pub returns-then-has_sync : goal.returns-then-has_sync
returns-then-has_sync c = c.loop-at.invariant.0

pub not_fill-requires : goal.not_fill-requires
not_fill-requires c = omega arith

pub overflow_add-stray : goal.overflow_add-stray
overflow_add-stray c = omega arith

pub overflow_add-at : goal.overflow_add-at
overflow_add-at c = omega arith

pub loop-at-smaller : goal.loop-at-smaller
loop-at-smaller c = omega arith

pub loop-at-preserved : goal.loop-at-preserved
loop-at-preserved c =
    let k = c.loop-at in
    let p = c.args.piece.now in
    let syncs = count_by is_sync (block p k.at 64) in
    let none = ltb-false 0 syncs (sym c.has_sync.ensures ∙ c.if-has_sync.false) in
    let stray = c.not_fill.ensures in
    let from_is = c.from-stray.ensures ∙ stray.0 in
    (quiet_join k.invariant.0 (rw from_is (block-quiet p k.at 64 (omega arith) (omega arith))), omega arith, omega (arith, stray.1, c.from-stray.ensures))

pub returns : goal.returns
returns c = c.loop-at.invariant.0
