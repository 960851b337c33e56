-- `word72_csv::value::put_hex` meets its contract: so many bytes are put as were passed. Assumes nothing.
use Rattle.std.proofs.Common.{take}
use Rattle.command.specs.Text.{Adds}
use Rattle.word72_csv.specs.Values.{hex_text}
use Rattle.word72_csv.proofs.value.put_hex.Given as goal

abbrev pub invariant-loop-b : goal.invariant-loop-b
invariant-loop-b l = Adds l.initial.out l.initial.end (hex_text (take l.b-index l.bytes)) l.out l.end
