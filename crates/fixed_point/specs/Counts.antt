-- A 32-bit two's complement count times a power of two (DFCB 3.2.7.4.4, 3.2.7.4.5 and 3.2.7.4.8), and when a double is exactly that, said over
-- whole numbers as 01 says it of a six-byte number. Definitions only.
use Rattle.std.specs.Prelude.{◌≡◌, Bool, cond, ℕ, ◌+◌, ◌-◌, ◌*◌, ◌^◌, ◌<◌, leb, ℤ, pos, Float}
use Rattle.std.proofs.Math.IntN.{sub_ℕ}
use Rattle.std.specs.Float.Ieee.{odd}
use Rattle.base.specs.Lists.{one}
use Rattle.float1750.specs.Double.{bits_of, sign_of, exponent, fraction}

-- the first bit is the sign
abbrev pub is_negative : ℕ → Bool
is_negative n = leb (2 ^ 31) n

-- the count without its sign
abbrev pub magnitude : ℕ → ℕ
magnitude n = cond (is_negative n) (2 ^ 32 - n) n

-- the count as an integer
unfoldable pub signed : ℕ → ℤ
signed n = cond (is_negative n) (sub_ℕ n (2 ^ 32)) (pos n)

-- the count divided by 2^k: ± magnitude × 2^0 / 2^k, which has at most 53 binary digits
unfoldable pub scaled : ℕ → ℕ → Float
scaled k n = odd 53 (is_negative n) (magnitude n) 0 k

-- v is exactly the count n divided by 2^k. With x its exponent field and c its fraction bits a double is (2^52 + c) × 2^x / 2^1075
pub record Exact (k n : ℕ) (v : Float) : Type 0 where
  pub sign_is : sign_of v ≡ one (is_negative n)
  pub whole : 0 < n → (2 ^ 52 + fraction v) * 2 ^ exponent v * 2 ^ k ≡ magnitude n * 2 ^ 1075
  pub zero : n ≡ 0 → bits_of v ≡ 0
