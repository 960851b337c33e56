-- `book_vectors::blank_book` meets its contract: as many zeros as were asked for, by a law and not by counting. Assumes nothing.
use mathlib.Core.Path.{sym}
use Prim.Native.Nat.{ℕ}
use lib.ListN.{length-replicate}
use Rattle.book_vectors.proofs.blank_book.Goals as goal

pub returns : goal.returns
returns c = sym (length-replicate {0} {A = ℕ} 2097668 0)
