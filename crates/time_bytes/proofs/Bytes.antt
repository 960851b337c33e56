-- Packing undoes reading the half bytes, and reading them undoes packing; and the bytes of an instant are its fields packed.
-- Each step is linear arithmetic on one field, so that no proof sees more than it needs. Assumes nothing.
use mathlib.Core.Path.{◌≡◌}
use mathlib.Core.List.{List, [], ◌∷◌}
use Prim.Native.Nat.{ℕ, ◌+◌, ◌*◌, ◌/◌, ◌%◌, ◌≤◌, ◌<◌}
use native.Mathlib.Omega.{arith}
use lib.Dec.{T}
use lib.Ieee.Fits.{and_i}
use lib.ListN.{length}
use borrow.Author.Tests.{le-leb}
use Rattle.calendar.specs.Calendar.{last_day}
use Rattle.time_fields.specs.Fields.{decimal, in_range, is_time, ticks, instant}
use Rattle.time_fields.specs.Fields.{spacecraft, day, hour, minute, second, millisecond, sixteenth}
use Rattle.time_fields.specs.Fields.{day_of, hour_of, minute_of, second_of, millisecond_of, sixteenth_of}
use Rattle.time_fields.proofs.Fields.{Digits, of_digits, InRange, of_range}
use Rattle.time_fields.proofs.Fields.{day-of, hour-of, minute-of, second-of, millisecond-of, sixteenth-of}
use Rattle.time_bytes.specs.Bytes.{halves, bcd, packed, code_of, put_after}

-- ---- seven bytes, their fields packed again
module _ (b0 b1 b2 b3 b4 b5 b6 : ℕ) where
  abbrev w : List ℕ
  w = b0 ∷ b1 ∷ b2 ∷ b3 ∷ b4 ∷ b5 ∷ b6 ∷ []

  pub repacked : Digits w 1 12 → packed (spacecraft w) (day w) (hour w) (minute w) (second w) (millisecond w) (sixteenth w) ≡ w
  repacked f =
      same-seven (omega arith) (omega arith) (omega arith) (omega arith) (omega arith) (omega arith) (omega arith)
    where
      same-seven : {a0 a1 a2 a3 a4 a5 a6 : ℕ} → a0 ≡ b0 → a1 ≡ b1 → a2 ≡ b2 → a3 ≡ b3 → a4 ≡ b4 → a5 ≡ b5 → a6 ≡ b6
          → a0 ∷ a1 ∷ a2 ∷ a3 ∷ a4 ∷ a5 ∷ a6 ∷ [] ≡ w
      same-seven e0 e1 e2 e3 e4 e5 e6 = rw (e0, e1, e2, e3, e4, e5, e6)

-- ---- fields, packed and read again
module _ (c d h m s ms x : ℕ) (r : InRange d h m s) (MS : ms < 1000) (X : x < 16) where
  abbrev l : List ℕ
  l = packed c d h m s ms x

  pub packed-spacecraft : spacecraft l ≡ c
  packed-spacecraft = omega arith

  packed-day : day l ≡ d
  packed-day =
      let e : halves c (d / 100) % 16 ≡ d / 100 = omega arith in
      let f : bcd (d % 100) / 16 * 10 + bcd (d % 100) % 16 ≡ d % 100 = omega arith in
      omega arith

  packed-hour : hour l ≡ h
  packed-hour = omega arith

  packed-minute : minute l ≡ m
  packed-minute = omega arith

  packed-second : second l ≡ s
  packed-second = omega arith

  packed-millisecond : millisecond l ≡ ms
  packed-millisecond = omega arith

  packed-sixteenth : sixteenth l ≡ x
  packed-sixteenth = omega arith

  pub packed-instant : instant l ≡ ticks d h m s ms x
  packed-instant =
      rw (packed-day, packed-hour, packed-minute, packed-second, packed-millisecond, packed-sixteenth)

  pub packed-is_time : (y : ℕ) → d ≤ last_day y → T (is_time y l)
  unfolding is_time
  packed-is_time y last =
      and_i (decimal l 1 12) (in_range y (day l) (hour l) (minute l) (second l)) (of_digits l 1 12 (omega arith))
      (rw (packed-day, packed-hour, packed-minute, packed-second) (of_range y d h m s r last))

  pub code_is : code_of c (ticks d h m s ms x) ≡ packed c d h m s ms x
  unfolding code_of
  code_is =
      rw (day-of d h m s ms x r MS X, hour-of d h m s ms x r MS X, minute-of d h m s ms x r MS X)
      (rw (second-of d h m s ms x r MS X, millisecond-of d h m s ms x r MS X, sixteenth-of d h m s ms x r MS X))

-- ---- the bytes that are written, one by one
pub code_bytes : (c i b1 b2 b3 b4 b5 : ℕ) → b1 ≡ bcd (day_of i % 100) → b2 ≡ bcd (hour_of i) → b3 ≡ bcd (minute_of i) → b4 ≡ bcd (second_of i)
    → b5 ≡ bcd (millisecond_of i / 10)
    → halves c (day_of i / 100) ∷ b1 ∷ b2 ∷ b3 ∷ b4 ∷ b5 ∷ halves (millisecond_of i % 10) (sixteenth_of i) ∷ [] ≡ code_of c i
unfolding code_of
code_bytes c i b1 b2 b3 b4 b5 e1 e2 e3 e4 e5 = rw (e1, e2, e3, e4, e5)

-- ---- they are written where they fit
pub put-code : (c i : ℕ) (out : List ℕ) → length out ≡ 7 → c ≤ 15 → day_of i ≤ 366 → code_of c i ≡ put_after c i out
unfolding put_after
put-code c i out seven craft day = rw (seven, le-leb c 15 craft, le-leb (day_of i) 366 day)
