use lib.Seq.{take_all}
use Rattle.command.proofs.TextLaws.{adds_append}
use Rattle.csv_fields.proofs.Laws.{doubles_none, doubles_one_more}
use Rattle.csv_fields.proofs.put_doubled.Goals as goal

pub loop-b-init : goal.loop-b-init
loop-b-init c = doubles_none c.put-end.ensures.counts c.args.text.now

pub loop-b-preserved : goal.loop-b-preserved
loop-b-preserved c = doubles_one_more c.args.text.now c.loop-b.b-index c.loop-b-test.true c.loop-b.invariant c.put_quoted-end.ensures

pub returns : goal.returns
returns c =
    let whole = take_all c.loop-b.b-index c.args.text.now c.loop-b-test.false in
    adds_append c.put-end.ensures (rw whole at c.loop-b.invariant)
