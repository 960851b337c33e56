-- `csv_fields::put_doubled` meets its contract: so much of the text is put within quotes as was passed. Assumes nothing.
use Rattle.std.proofs.Common.{take}
use Rattle.command.specs.Text.{Adds}
use Rattle.csv_fields.specs.Fields.{doubled}
use Rattle.csv_fields.proofs.put_doubled.Given as goal

abbrev pub invariant-loop-b : goal.invariant-loop-b
invariant-loop-b l = Adds l.initial.out l.initial.end (doubled (take l.b-index l.text)) l.out l.end
