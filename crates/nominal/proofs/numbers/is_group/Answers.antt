-- `nominal::numbers::is_group` meets its contract: equal numbers of four digits have equal digits. Assumes nothing.
use native.Mathlib.Omega.{arith}
use Rattle.nominal.proofs.Digits.{group_test}
use Rattle.nominal.proofs.numbers.is_group.Goals as goal

pub returns : goal.returns
returns c = group_test c.args.x c.from.result c.from.ensures (omega arith) c.four.ensures c.requires
