use mathlib.Core.Path.{◌≡◌, sym, ◌∙◌}
use Prim.Native.Nat.{◌-◌}
use native.Mathlib.Omega.{arith}
use Rattle.double_text.proofs.Laws.{zero-passed, digit-stays, last_stays}
use Rattle.double_text.proofs.digits.leading_zeros.Goals as goal

pub loop-first-init : goal.loop-first-init
loop-first-init c =
    let all : c.args.cut - 0 ≡ c.args.cut = omega arith in
    rw all

pub returns-then-digits-first-ne48 : goal.returns-then-digits-first-ne48
returns-then-digits-first-ne48 c =
    let l = c.loop-first in
    let all = c.args.digits.now in
    let here = digit-stays all c.args.cut l.first c.requires (omega arith) c.if-digits-first-ne48.true in
    record { within = omega arith; rest-is = sym (l.invariant ∙ here) }

pub loop-first-preserved : goal.loop-first-preserved
loop-first-preserved c =
    let l = c.loop-first in
    let all = c.args.digits.now in
    l.invariant ∙ zero-passed all c.args.cut l.first c.requires (omega arith) c.if-digits-first-ne48.false

pub returns : goal.returns
returns c =
    let l = c.loop-first in
    let last = c.saturating_sub-last.result in
    let all : l.first ≡ last = omega arith in
    let here = last_stays c.args.digits.now c.args.cut last (omega arith) in
    record { within = omega arith; rest-is = sym (rw all at l.invariant ∙ here) }
