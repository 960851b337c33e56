-- `header_symbols::combine` meets its contract. The loop's invariant:
-- what is added up is that of the last `place` symbols, and `rest` is what stands above them. Assumes nothing.
use Rattle.std.proofs.Common.{◌≡◌, ◌/◌, ◌^◌}
use Rattle.header_code.specs.Symbols.{symbols_of, combined}
use Rattle.header_symbols.proofs.combine.Given as goal

abbrev pub invariant-loop-place : goal.invariant-loop-place
invariant-loop-place l = (l.rest ≡ l.word / 16 ^ l.place) × (l.sum ≡ combined l.table (symbols_of l.place l.word))
