-- `double_text::put_bits` meets its contract: the sign, and the number behind it. Assumes nothing.
use borrow.Author.Tests.{eq-eqb, ne_eqb}
use Rattle.command.proofs.TextLaws.{adds_append}
use Rattle.double_text.specs.Decimal.{bits_text}
use Rattle.double_text.proofs.put_bits.Goals as goal

pub returns-then-exponent-eq-INFINITE : goal.returns-then-exponent-eq-INFINITE
unfolding bits_text
returns-then-exponent-eq-INFINITE c =
    rw (eq-eqb _ 2047 c.if-exponent-eq-INFINITE.true) (adds_append c.put_sign-signed.ensures c.put.ensures)

pub returns : goal.returns
unfolding bits_text
returns c =
    rw (ne_eqb _ 2047 c.if-exponent-eq-INFINITE.false, ← c.significand_of.ensures) (adds_append c.put_sign-signed.ensures c.put_scaled.ensures)
