-- `writer_vectors::reel::blank` meets its contract: as many zeros as were asked for, by a law and not by counting. Assumes nothing.
use mathlib.Core.Path.{sym}
use Prim.Native.Nat.{ℕ}
use lib.ListN.{length-replicate}
use Rattle.writer_vectors.proofs.reel.blank.Goals as goal

pub returns : goal.returns
returns c = sym (length-replicate {0} {A = ℕ} 2000000 0)
