-- The slots of an area, and the bits that tell which are in use (02, request 12). Definitions only.
use Rattle.std.specs.Prelude.{Bool, cond, not, ◌&&◌, List, ◌++◌, ℕ, zero, suc, ◌+◌, ◌*◌, ◌/◌, ◌%◌, ◌^◌, eqb, leb, take, drop}
use Rattle.base.specs.Format.{major_frame}

-- ---- the area: slots of a major frame each

-- how many slots so many bytes have; whether they are whole slots, 1 to 64 of them
abbrev pub slots : ℕ → ℕ
slots size = size / major_frame

abbrev pub whole_slots : ℕ → Bool
whole_slots size = eqb (size % major_frame) 0 && (leb 1 (slots size) && leb (slots size) 64)

-- where slot i begins
abbrev pub start : ℕ → ℕ
start i = i * major_frame

-- the bytes of slot i
unfoldable pub slot_bytes : ℕ → List ℕ → List ℕ
slot_bytes i area = take major_frame (drop (start i) area)

-- the area with a frame in slot i
unfoldable pub with_frame : ℕ → List ℕ → List ℕ → List ℕ
with_frame i frame area = take (start i) area ++ (frame ++ drop (start i + major_frame) area)

-- ---- the bits: 2^i for slot i

unfoldable pub is_in_use : ℕ → ℕ → Bool
is_in_use bits i = eqb (bits / 2 ^ i % 2) 1

-- a number has no bit set from n on exactly where it is below 2^n
abbrev pub bits_beyond : ℕ → ℕ → Bool
bits_beyond n bits = leb (2 ^ n) bits

-- the lowest of the n numbers from i on that passes the test; i + n where none does
unfoldable pub lowest : (ℕ → Bool) → ℕ → ℕ → ℕ
lowest test i zero = i
lowest test i (suc n) = cond (test i) i (lowest test (suc i) n)

-- the lowest of n slots that is not in use; n where all are
abbrev pub lowest_free : ℕ → ℕ → ℕ
lowest_free n bits = lowest (λ i. not (is_in_use bits i)) 0 n
