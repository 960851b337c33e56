-- `base::big_endian::write` meets its contract: from place i on the bytes are the last of n, and `rest` is what is left of it. Assumes nothing.
use Rattle.std.proofs.Common.{◌≡◌, length}
use Rattle.base.proofs.Numbers.{Stored}
use Rattle.base.proofs.big_endian.write.Given as goal

abbrev pub invariant-loop-i : goal.invariant-loop-i
invariant-loop-i l = (length l.out ≡ length l.initial.out) × Stored l.n l.out l.i l.rest
