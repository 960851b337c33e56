use mathlib.Core.Path.{◌≡◌, refl, ap, ◌∙◌}
use mathlib.Core.List.{◌++◌}
use Prim.Native.Nat.{ℕ, ◌≤◌}
use native.Mathlib.Omega.{arith}
use lib.ListN.{length, drop, length-set}
use Rattle.io.specs.Digits.{last_digits as digits}
use Rattle.double_text.proofs.Laws.{none-spelled, one-spelled}
use Rattle.double_text.proofs.digits.spell.Goals as goal

pub loop-i-init : goal.loop-i-init
loop-i-init c = (refl, none-spelled c.args.n c.args.digits.now)

pub loop-i-preserved : goal.loop-i-preserved
loop-i-preserved c =
    let l = c.loop-i in
    let inside : l.i ≤ length l.digits = omega arith in
    let spelled = one-spelled c.args.n (length c.args.digits.now) l.i l.rest l.digits c.loop-i-test.true inside l.invariant.1 in
    (simp length-set l.invariant.0, spelled)

pub returns : goal.returns
returns c =
    let l = c.loop-i in
    let none : 0 ≡ l.i = omega arith in
    ap (λ (i : ℕ). digits 10 i l.rest ++ drop i l.digits) none ∙ l.invariant.1
