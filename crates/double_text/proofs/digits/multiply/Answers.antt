use mathlib.Core.Path.{◌≡◌, refl, ap, ◌∙◌}
use mathlib.Core.List.{◌++◌}
use Prim.Native.Nat.{ℕ, ◌*◌, ◌+◌, ◌-◌, ◌%◌, ◌≤◌}
use native.Mathlib.Nat.{mul-le-mul}
use native.Mathlib.Omega.{arith}
use lib.ListN.{length, drop, get_or, length-set}
use Rattle.io.specs.Digits.{last_digits as digits}
use Rattle.double_text.proofs.Laws.{none-multiplied, one_more-multiplied}
use Rattle.double_text.proofs.digits.multiply.Goals as goal

pub loop-i-init : goal.loop-i-init
loop-i-init c = (refl, omega arith, λ m e. none-multiplied m c.args.factor c.args.digits.now e)

pub overflow_mul-product : goal.overflow_mul-product
overflow_mul-product c =
    let l = c.loop-i in
    let product : get_or l.digits (l.i - 1) 0 % 16 * c.args.factor ≤ 15 * 9 = mul-le-mul {n₂ = 15} {m₂ = 9} (omega arith) c.requires in
    record { fits = omega (arith, product) }

pub overflow_add-product : goal.overflow_add-product
overflow_add-product c =
    let l = c.loop-i in
    let product : get_or l.digits (l.i - 1) 0 % 16 * c.args.factor ≤ 15 * 9 = mul-le-mul {n₂ = 15} {m₂ = 9} (omega arith) c.requires in
    record { fits = omega (arith, product, l.invariant.1) }

pub loop-i-preserved : goal.loop-i-preserved
loop-i-preserved c =
    let l = c.loop-i in
    let f = c.args.factor in
    let size = length c.args.digits.now in
    let product : get_or l.digits (l.i - 1) 0 % 16 * f ≤ 15 * 9 = mul-le-mul {n₂ = 15} {m₂ = 9} (omega arith) c.requires in
    let inside : l.i ≤ length l.digits = omega arith in (
      simp length-set l.invariant.0,
      omega (arith, product, l.invariant.1),
      λ m e. one_more-multiplied m f size l.i l.carry l.digits c.loop-i-test.true inside (l.invariant.2 m e),
    )

pub returns : goal.returns
returns c =
    λ m e.
    let l = c.loop-i in
    let done = l.invariant.2 m e in
    let f = c.args.factor in
    let none : 0 ≡ l.i = omega arith in
    ap (λ (i : ℕ). digits 10 i (done.rest * f + l.carry) ++ drop i l.digits) none ∙ done.whole_is
