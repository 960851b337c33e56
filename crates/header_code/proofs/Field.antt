-- Sums and products are elements again, and the product is linear in its first factor. Assumes nothing.
use mathlib.Core.Path.{◌≡◌, refl}
use mathlib.Core.Bool.{Bool, true, false, cond}
use Prim.Native.Nat.{ℕ, zero, suc, ◌/◌, ◌%◌, ◌<◌}
use lib.Bits.{xor_lt}
use lib.Dec.{eqb, ltb, ltb→lt, lit<}
use Rattle.header_code.specs.Field.{◌⊕◌, times_x, times_bits, times, power}
use Rattle.header_patterns.proofs.Every.{each, same2}
use Rattle.header_code.proofs.Sums.{swap}

pub sum_lt : (a b : ℕ) → a < 16 → b < 16 → (a ⊕ b) < 16
sum_lt a b = xor_lt 4 a b

times_x-lt : (a : ℕ) → a < 16 → times_x a < 16
unfolding times_x
times_x-lt a h = ltb→lt (times_x a) 16 (each 16 (λ a. ltb (times_x a) 16) tt a h)

times_x-sum : (a b : ℕ) → a < 16 → b < 16 → times_x (a ⊕ b) ≡ times_x a ⊕ times_x b
unfolding times_x
times_x-sum = same2 16 16 (λ a b. times_x (a ⊕ b)) (λ a b. times_x a ⊕ times_x b) tt

pub power-lt : (n : ℕ) → power n < 16
power-lt zero = lit< tt
power-lt (suc n) = times_x-lt (power n) (power-lt n)

bit-lt : (t : Bool) (a : ℕ) → a < 16 → cond t 0 a < 16
bit-lt true a h = lit< tt
bit-lt false a h = h

bit-sum : (t : Bool) (a b : ℕ) → cond t 0 (a ⊕ b) ≡ cond t 0 a ⊕ cond t 0 b
bit-sum true a b = refl
bit-sum false a b = refl

bits-lt : (n a b : ℕ) → a < 16 → times_bits n a b < 16
bits-lt zero a b h = lit< tt
bits-lt (suc n) a b h =
    sum_lt (cond (eqb (b % 2) 0) 0 a) (times_bits n (times_x a) (b / 2)) (bit-lt (eqb (b % 2) 0) a h) (bits-lt n (times_x a) (b / 2) (times_x-lt a h))

bits-sum : (n a b c : ℕ) → a < 16 → b < 16 → times_bits n (a ⊕ b) c ≡ times_bits n a c ⊕ times_bits n b c
bits-sum zero a b c ha hb = refl
bits-sum (suc n) a b c ha hb =
    let rest = bits-sum n (times_x a) (times_x b) (c / 2) (times_x-lt a ha) (times_x-lt b hb) in
    let t = eqb (c % 2) 0 in
    rw (times_x-sum a b ha hb, rest, bit-sum t a b) (swap (cond t 0 a) (cond t 0 b) (times_bits n (times_x a) (c / 2)) (times_bits n (times_x b) (c / 2)))

pub times-lt : (a b : ℕ) → a < 16 → times a b < 16
unfolding times
times-lt a b = bits-lt 4 a b

pub times-sum : (a b c : ℕ) → a < 16 → b < 16 → times (a ⊕ b) c ≡ times a c ⊕ times b c
unfolding times
times-sum a b c = bits-sum 4 a b c
