-- `word72_csv::put_items` meets its contract: so many items are put as were passed. Assumes nothing.
use Rattle.command.specs.Text.{Adds}
use Rattle.word72_csv.specs.ItemLines.{item_lines}
use Rattle.word72_csv.proofs.put_items.Given as goal

abbrev pub invariant-loop-item : goal.invariant-loop-item
invariant-loop-item l = Adds l.initial.out 0 (item_lines l.year l.frame l.column l.kind l.item) l.out l.end
