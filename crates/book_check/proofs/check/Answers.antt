-- `book_check::check` meets its contract: the first fault is the verdict. Assumes nothing.
use native.Mathlib.Omega.{arith}
use Rattle.book_check.proofs.Verdicts.{promised}
use Rattle.book_check.proofs.check.Goals as goal

pub returns : goal.returns
returns c = promised c.args.bytes.now _ (λ k. omega (arith, c.type_inv.bytes k)) (grind arith)
