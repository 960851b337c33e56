-- `time_fields::is_time` meets its contract: the numbers that it tests are the fields of the seven bytes. Assumes nothing.
use native.Mathlib.Omega.{arith}
use Rattle.time_fields.proofs.Fields.{tested}
use Rattle.time_fields.proofs.is_time.Goals as goal

pub returns : goal.returns
returns c =
    let a = c.args in
    let w = a.code.now in
    tested a.year w c.is_decimal.result c.in_range.result c.day.result c.two_digits.result c.two_digits-2.result
    c.two_digits-3.result c.is_decimal.ensures c.in_range.ensures (omega arith) (omega arith) (omega arith) (omega arith)
