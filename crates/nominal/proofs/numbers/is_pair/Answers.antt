-- `nominal::numbers::is_pair` meets its contract: equal numbers of eight digits have equal digits. Assumes nothing.
use native.Mathlib.Omega.{arith}
use Rattle.nominal.proofs.Digits.{pair_test}
use Rattle.nominal.proofs.numbers.is_pair.Goals as goal

pub returns : goal.returns
returns c =
    let e = c.eight.ensures in
    let w = c.from in
    let v = c.from-2 in
    pair_test c.args.x w.result w.ensures (omega arith) e c.args.y v.result v.ensures (omega arith) c.requires
