-- `word72_reading::read_suited` meets its contract: the length that suits a form makes each index valid, and each arm is the definition's.
-- Assumes nothing.
use lib.Dec.{eqb→eq}
use Rattle.base.proofs.Lists.{spelled}
use Rattle.word72_reading.proofs.read_suited.Goals as goal

pub returns-in-Count : goal.returns-in-Count
returns-in-Count c = rw c.in-Count.is (c.count.ensures _)

pub returns-in-TwelveBit : goal.returns-in-TwelveBit
returns-in-TwelveBit c =
    let told = c.in-TwelveBit.is in
    rw (told, spelled c.args.bytes.now 2 (eqb→eq _ 2 (rw told at c.requires.1))) (c.twelve_bit.ensures _)

pub returns-in-Number : goal.returns-in-Number
returns-in-Number c = rw c.in-Number.is (c.number.ensures _)
