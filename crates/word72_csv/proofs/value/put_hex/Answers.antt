use Rattle.std.proofs.Common.{arith}
use Rattle.word72_csv.proofs.Laws.{hex_none, hex_one_more}
use Rattle.word72_csv.proofs.value.put_hex.Goals as goal

pub loop-b-init : goal.loop-b-init
loop-b-init c = hex_none c.put-end.ensures.counts c.args.bytes.now

pub loop-b-preserved : goal.loop-b-preserved
loop-b-preserved c =
    hex_one_more c.args.bytes.now c.loop-b.b-index (omega arith) c.loop-b.invariant c.put_hex_byte-end.ensures
