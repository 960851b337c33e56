use mathlib.Core.Path.{◌≡◌, refl, ap, ◌∙◌}
use Prim.Native.Nat.{ℕ}
use native.Mathlib.Omega.{arith}
use lib.Dec.{ltb}
use Rattle.base.specs.Lists.{count_by}
use Rattle.quiet.specs.Quiet.{block, is_sync}
use Rattle.quiet.proofs.Joining.{count-more}
use Rattle.std.proofs.lemmas.Grind.{common_steps}
use Rattle.quiet.proofs.has_sync.Goals as goal

pub loop-i-init : goal.loop-i-init
loop-i-init c = (refl, omega arith)

pub overflow_add-at : goal.overflow_add-at
overflow_add-at c = omega arith

pub bounds-piece-at : goal.bounds-piece-at
bounds-piece-at c = omega arith

pub overflow_add-i : goal.overflow_add-i
overflow_add-i c = omega arith

pub loop-i-smaller : goal.loop-i-smaller
loop-i-smaller c = omega arith

pub loop-i-preserved : goal.loop-i-preserved
loop-i-preserved c =
    let k = c.loop-i in
    let a = c.args in
    let p = a.piece.now in
    let more = count-more p a.at is_sync k.i (omega arith) in
    grind (arith, common_steps, more)

pub returns : goal.returns
returns c =
    let k = c.loop-i in
    let a = c.args in
    let e : k.i ≡ 64 = omega arith in
    k.invariant.0 ∙ ap (λ (n : ℕ). ltb 0 (count_by is_sync (block a.piece.now a.at n))) e
