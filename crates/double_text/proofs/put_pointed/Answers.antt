-- `double_text::put_pointed` meets its contract: what is left of the zeros in front, and the digits behind the point. Assumes nothing.
use Rattle.double_text.proofs.Laws.{pointed-digits, plain_digits}
use Rattle.double_text.proofs.put_pointed.Goals as goal

pub returns-then-cut-all : goal.returns-then-cut-all
returns-then-cut-all c =
    pointed-digits c.args.all.now c.args.cut c.leading_zeros-first.result c.leading_zeros-first.ensures c.if-cut-all.true
    c.put-whole.ensures c.put-point.ensures c.put.ensures

pub returns : goal.returns
returns c =
    plain_digits c.args.all.now c.args.cut c.leading_zeros-first.result c.leading_zeros-first.ensures c.if-cut-all.false
    c.put-whole.ensures
