-- `base::big_endian::read` meets its contract: after each byte n is the number of the bytes so far, in 64 bits. Assumes nothing.
use Rattle.std.proofs.Common.{◌≡◌, ◌%◌, ◌^◌, take}
use Rattle.base.specs.Numbers.{big_endian}
use Rattle.base.proofs.big_endian.read.Given as goal

abbrev pub invariant-loop-b : goal.invariant-loop-b
invariant-loop-b l = l.n ≡ big_endian (take l.b-index l.bytes) % 2 ^ 64
