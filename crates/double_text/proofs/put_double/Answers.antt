-- `double_text::put_double` meets its contract. Assumes nothing.
use Rattle.double_text.proofs.Laws.{nan_text, number-text}
use Rattle.double_text.proofs.put_double.Goals as goal

pub returns-then-is_nan : goal.returns-then-is_nan
returns-then-is_nan c = rw (← nan_text c.args.x c.if-is_nan.ensures.value) c.put.ensures

pub returns : goal.returns
returns c = rw (← number-text c.args.x c.if-is_nan.ensures.value) c.put_bits.ensures
