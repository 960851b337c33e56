-- `cycle_columns::count` meets its contract. Assumes nothing.
use Rattle.cycle_columns.proofs.Gathering.{count-is}
use Rattle.cycle_columns.proofs.count.Goals as goal

pub returns : goal.returns
returns c =
    count-is c.args.width c.args.column.now c.args.place _ _ _ c.requires c.min-start.ensures c.min.ensures
    c.read.ensures
