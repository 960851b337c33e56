use Rattle.std.proofs.Common.{◌≡◌, sym, ◌∙◌, ap, ◌+◌, ◌-◌, ◌/◌, arith}
use Rattle.double_text.specs.Decimal.{lowest_terms}
use Rattle.double_text.proofs.Laws.{halved, lowest, whole}
use Rattle.double_text.proofs.lowest_terms.Goals as goal

pub returns-then-numerator-ne0 : goal.returns-then-numerator-ne0
returns-then-numerator-ne0 c =
    let l = c.loop-i in
    (sym (l.invariant ∙ lowest l.numerator (c.args.p - l.i) (omega arith) c.if-numerator-ne0.true), omega arith)

pub loop-i-preserved : goal.loop-i-preserved
loop-i-preserved c =
    let l = c.loop-i in
    let one_less : c.args.p - l.i - 1 ≡ c.args.p - (l.i + 1) = omega arith in
    l.invariant ∙ halved l.numerator (c.args.p - l.i) (omega arith) c.if-numerator-ne0.false ∙ ap (lowest_terms (l.numerator / 2)) one_less

pub returns : goal.returns
returns c =
    let l = c.loop-i in
    let none : c.args.p - l.i ≡ 0 = omega arith in
    (sym (l.invariant ∙ ap (lowest_terms l.numerator) none ∙ whole l.numerator 0 (omega arith)), omega arith)
