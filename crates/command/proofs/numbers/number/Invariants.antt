-- `command::numbers::number` meets its contract: so many digits make so much. Assumes nothing.
use Rattle.command.proofs.NumberLaws.{Read}
use Rattle.command.proofs.numbers.number.Given as goal

abbrev pub invariant-loop-b : goal.invariant-loop-b
invariant-loop-b l = Read l.text l.n l.b-index
