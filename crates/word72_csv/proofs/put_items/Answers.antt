use Rattle.word72_csv.proofs.Laws.{no_items, one-item_more}
use Rattle.word72_csv.proofs.put_items.Goals as goal

pub loop-item-init : goal.loop-item-init
loop-item-init c = no_items c.args.out.now c.args.year c.args.frame c.args.column.now c.args.kind

pub loop-item-preserved : goal.loop-item-preserved
loop-item-preserved c =
    one-item_more c.args.year c.args.frame c.args.column.now c.args.kind c.loop-item.item c.loop-item.invariant c.put_item-end.ensures
