-- `double_text::significand_of` meets its contract. Assumes nothing.
use native.Mathlib.Omega.{arith}
use borrow.Author.Tests.{eq-eqb, ne_eqb}
use Rattle.double_text.specs.Decimal.{significand}
use Rattle.double_text.proofs.significand_of.Goals as goal

pub overflow_mul-result : goal.overflow_mul-result
overflow_mul-result c = record { fits = omega (arith, c.requires) }

pub returns-then-exponent-eq0 : goal.returns-then-exponent-eq0
unfolding significand
returns-then-exponent-eq0 c = rw (eq-eqb _ 0 c.if-exponent-eq0.true)

pub overflow_add-result : goal.overflow_add-result
overflow_add-result c = record { fits = omega (arith, c.requires) }

pub returns : goal.returns
unfolding significand
returns c = rw (ne_eqb _ 0 c.if-exponent-eq0.false)
