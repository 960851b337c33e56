use Rattle.std.proofs.Common.{◌≡◌, sym, ◌∙◌, length, get_or, arith}
use Rattle.std.proofs.lemmas.Bool.{eqb-false}
use Rattle.command.proofs.NumberLaws.{room, told-small, one_more, other_byte, whole-number}
use Rattle.command.proofs.numbers.number.Goals as goal

pub overflow_mul-n : goal.overflow_mul-n
overflow_mul-n c =
    let small = room c.loop-b.invariant c.loop-b-test.true c.if-text-gt-MOST_DIGITS.false in
    record { fits = omega arith }

pub overflow_add-n : goal.overflow_add-n
overflow_add-n c =
    let small = room c.loop-b.invariant c.loop-b-test.true c.if-text-gt-MOST_DIGITS.false in
    record { fits = omega (arith, told-small (get_or c.args.text.now c.loop-b.b-index 0) c.in_ok-n.ensures) }

pub returns-in_err-n : goal.returns-in_err-n
returns-in_err-n c = c.from_residual.ensures ∙ other_byte c.loop-b.invariant c.loop-b-test.true c.in_err-n.ensures

pub loop-b-preserved : goal.loop-b-preserved
loop-b-preserved c = one_more c.loop-b.invariant c.loop-b-test.true c.in_ok-n.ensures

pub returns : goal.returns
returns c =
    let some : length c.args.text.now ≡ 0 → ⊥ = eqb-false _ _ (sym c.if-is_empty.ensures) in
    whole-number c.loop-b.invariant c.loop-b-test.false some c.if-text-gt-MOST_DIGITS.false
