use Rattle.std.proofs.Common.{◌≡◌, refl, length, arith}
use Rattle.double_text.proofs.Laws.{as_many, not_grown, grown}
use Rattle.double_text.proofs.digits.expand.Goals as goal

pub loop-init : goal.loop-init
loop-init c =
    let spelled = c.spell in
    (refl, not_grown c.args.n c.args.factor (length c.args.digits.now) spelled.new.digits spelled.ensures)

pub loop-preserved : goal.loop-preserved
loop-preserved c =
    let l = c.loop in
    let spelled = c.spell.new.digits in
    let product = c.multiply in
    let once_more = grown c.args.n c.args.factor (length spelled) l.counter l.digits product.new.digits l.invariant.0 l.invariant.1 product.ensures in
    (as_many product.new.digits (length spelled) _ once_more, once_more)

pub returns : goal.returns
returns c =
    let l = c.loop in
    let size = as_many c.spell.new.digits (length c.args.digits.now) c.args.n c.spell.ensures in
    let all : l.counter ≡ c.args.k = omega arith in
    rw (size, all) at l.invariant.1
