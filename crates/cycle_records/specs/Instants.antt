-- The time of the attitude, the ephemeris and the gyro drift in a cycle (DFCB 3.2.7.4.4, 3.2.7.4.5, 3.2.7.4.8). Definitions only.
use Rattle.std.specs.Prelude.{◌≡◌, Bool, cond, ℕ, ◌+◌, ◌-◌, eqb}
use Rattle.time_code.specs.Codec.{has_code}

-- 4.096 s in sixteenths of a millisecond
abbrev pub major_frame_time : ℕ
major_frame_time = 65536

-- of the records of major frame k, where the cycle's time code is t: t − 8.192 s, t − 4.096 s, t and t + 4.096 s
unfoldable pub record_instant : ℕ → ℕ → ℕ
record_instant t k =
    cond (eqb k 0) (t - (major_frame_time + major_frame_time)) (cond (eqb k 1) (t - major_frame_time) (cond (eqb k 2) t (t + major_frame_time)))

-- the records of j and of k have the same instant
abbrev pub SameInstants : ℕ → ℕ → Type 0
SameInstants j k = (t : ℕ) → record_instant t j ≡ record_instant t k

-- the time writer takes it as one of the year y: it lies in the year's days
abbrev pub is_writable : ℕ → ℕ → Bool
is_writable y i = has_code y (record { spacecraft = 0; instant = i })
