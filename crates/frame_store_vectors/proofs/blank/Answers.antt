-- `frame_store_vectors::blank` meets its contract: as many zeros as were asked for, by a law and not by counting. Assumes nothing.
use Rattle.std.proofs.Common.{ℕ, sym}
use lib.ListN.{length-replicate}
use Rattle.frame_store_vectors.proofs.blank.Goals as goal

pub returns : goal.returns
returns c = sym (length-replicate {0} {A = ℕ} 1064961 0)
