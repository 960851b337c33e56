use mathlib.Core.Path.{◌≡◌, refl, ap, ◌∙◌}
use mathlib.Core.Bool.{Bool, not}
use Prim.Native.Nat.{ℕ, ◌+◌}
use native.Mathlib.Omega.{arith}
use lib.ListN.{get_or}
use borrow.Author.Tests.{eq-eqb, ne_eqb}
use Rattle.base.specs.Format.{FILL}
use Rattle.base.specs.Lists.{one, count_by}
use Rattle.quiet.specs.Quiet.{block, not_fill}
use Rattle.quiet.proofs.Joining.{count-more}
use Rattle.quiet.proofs.not_fill.Goals as goal
use Rattle.quiet.proofs.not_fill.Goals.{then-piece-at-ne-FILL, else-piece-at-ne-FILL}

-- what the test of one byte for FILL adds
abbrev counted : Bool → ℕ
counted t = one (not t)

pub loop-i-init : goal.loop-i-init
loop-i-init c = (refl, omega arith, omega arith)

pub overflow_add-at : goal.overflow_add-at
overflow_add-at c = omega arith

pub bounds-piece-at : goal.bounds-piece-at
bounds-piece-at c = omega arith

pub overflow_add-n : goal.overflow_add-n
overflow_add-n c = omega arith

pub overflow_add-i : goal.overflow_add-i
overflow_add-i c = omega arith

pub loop-i-smaller : goal.loop-i-smaller
loop-i-smaller c = omega arith

pub loop-i-preserved : goal.loop-i-preserved
loop-i-preserved c =
    let k = c.loop-i in
    let a = c.args in
    let p = a.piece.now in
    let b = get_or p (a.at + k.i) 0 in
    let more = count-more p a.at not_fill k.i (omega arith) in
    elim c.if-piece-at-ne-FILL.branch [
      | then-piece-at-ne-FILL w ↦ (
        omega (arith, more, ap counted (ne_eqb b FILL (λ e. omega (arith, w.if-piece-at-ne-FILL.true))), w.n-is, k.invariant.0),
        omega (arith, w.n-is),
        omega arith,
      )
      | else-piece-at-ne-FILL w ↦ (
        omega (arith, more, ap counted (eq-eqb b FILL (omega (arith, w.if-piece-at-ne-FILL.false))), w.n-is, k.invariant.0),
        omega (arith, w.n-is),
        omega arith,
      )
    ]

pub returns : goal.returns
returns c =
    let k = c.loop-i in
    let a = c.args in
    let e : k.i ≡ 64 = omega arith in
    (k.invariant.0 ∙ ap (λ (n : ℕ). count_by not_fill (block a.piece.now a.at n)) e, omega arith)
