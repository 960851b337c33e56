-- The field of sixteen elements (02, request 11; the book, B.1 (4)): a number below 16 is a polynomial over bits, its bit i the coefficient of
-- x^i, modulo x^4 + x + 1. Definitions only.
use Rattle.std.specs.Prelude.{cond, ℕ, zero, suc, ◌*◌, ◌/◌, ◌%◌, eqb, ltb}
use Rattle.std.specs.Int.Bits.{bit_xor}

-- the sum: coefficient by coefficient, without carries
infixl 30 ◌⊕◌
abbrev pub ◌⊕◌ : ℕ → ℕ → ℕ
a ⊕ b = bit_xor a b

-- the product with x; where x^4 comes out, x^4 + x + 1 is taken off, whose bits are 19
unfoldable pub times_x : ℕ → ℕ
times_x a = cond (ltb a 8) (a * 2) (a * 2 ⊕ 19)

-- the product with the first n coefficients of b: for the bit i of b, a times x^i
abbrev pub times_bits : ℕ → ℕ → ℕ → ℕ
times_bits zero a b = 0
times_bits (suc n) a b = cond (eqb (b % 2) 0) 0 a ⊕ times_bits n (times_x a) (b / 2)

unfoldable pub times : ℕ → ℕ → ℕ
times a b = times_bits 4 a b

-- a^n, where the book's a is x
abbrev pub power : ℕ → ℕ
power zero = 1
power (suc n) = times_x (power n)
