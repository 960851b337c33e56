-- Numbers in bytes, the first byte highest (01, "first byte highest"). Definitions only.
use Rattle.std.specs.Prelude.{◌≡◌, List, [], ◌∷◌, ℕ, zero, suc, ◌+◌, ◌*◌, ◌/◌, ◌%◌, ◌^◌, ◌≤◌, length}

-- the number that the bytes are
unfoldable pub big_endian : List ℕ → ℕ
big_endian [] = 0
big_endian (b ∷ bs) = b * 256 ^ length bs + big_endian bs

-- the number x in so many bytes; what does not fit is cut off at the front
abbrev pub bytes_of : ℕ → ℕ → List ℕ
bytes_of zero x = []
bytes_of (suc width) x = x / 256 ^ width % 256 ∷ bytes_of width x

-- r is the number of the bytes w in 64 bits; of at most eight bytes it is the number itself
pub record NumberOf (w : List ℕ) (r : ℕ) : Type 0 where
  pub modulo : r ≡ big_endian w % 2 ^ 64
  pub whole : length w ≤ 8 → r ≡ big_endian w
