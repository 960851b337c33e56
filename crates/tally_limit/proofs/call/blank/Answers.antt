-- `tally_limit::call::blank` meets its contract: as many bytes as were asked for, by a law and not by counting. Assumes nothing.
use mathlib.Core.Path.{sym}
use Prim.Native.Nat.{ℕ}
use lib.ListN.{length-replicate}
use Rattle.tally_limit.proofs.call.blank.Goals as goal

pub returns : goal.returns
returns c = sym (length-replicate {0} {A = ℕ} 16385 165)
