-- `voted::fill::are_four` meets its contract: four FILL are one number. Assumes nothing.
use native.Mathlib.Omega.{arith}
use borrow.Author.Tests.{eqb-true}
use Rattle.nominal.proofs.Digits.{fill_of}
use Rattle.voted.proofs.fill.are_four.Goals as goal

pub returns : goal.returns
returns c = λ e. fill_of c.number.ensures (omega arith) (eqb-true _ _ e)
