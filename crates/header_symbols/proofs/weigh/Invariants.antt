-- `header_symbols::weigh` meets its contract. The loop's invariant:
-- the count is that of the last symbols, as many as were looked at, and `rest` is what stands above them. Assumes nothing.
use Rattle.std.proofs.Common.{◌≡◌, ◌/◌, ◌^◌, ◌≤◌}
use Rattle.header_code.specs.Code.{weight}
use Rattle.header_code.specs.Symbols.{symbols_of}
use Rattle.header_symbols.proofs.weigh.Given as goal

abbrev pub invariant-loop : goal.invariant-loop
invariant-loop l = (l.count ≤ l.counter) × (l.rest ≡ l.word / 16 ^ l.counter) × (l.count ≡ weight (symbols_of l.counter l.word))
