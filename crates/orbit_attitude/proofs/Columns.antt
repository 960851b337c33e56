-- The record of a column, from its values one by one. Assumes nothing.
use mathlib.Core.Path.{◌≡◌}
use mathlib.Core.List.{List}
use Prim.Native.Nat.{ℕ, ◌^◌, ◌<◌}
use lib.IntN.{ℤ}
use lib.Signed.{mag}
use mir.Syntax.{w64}
use mir.Val.{to_z, of_z}
use mir.Facts.{to_z-of_z}
use Rattle.cycle_columns.specs.Values.{word}
use Rattle.fixed_point.specs.Counts.{signed}
use Rattle.orbit_attitude.specs.Record.{attitude_in}

-- an integer that fits 64 bits is its bits, read as signed
pub as_returned : (z : ℤ) → mag z < 2 ^ 63 → to_z w64 (of_z w64 z) ≡ z
as_returned z h = to_z-of_z {w = w64} (record { sfits = h })

module _ (c : List ℕ) where
  pub attitude_is : (i : ℕ) (e1 e2 e3 e4 : ℤ) → e1 ≡ signed (word c 0) → e2 ≡ signed (word c 4) → e3 ≡ signed (word c 8) → e4 ≡ signed (word c 12)
      → record { instant = i; epa1 = e1; epa2 = e2; epa3 = e3; epa4 = e4 } ≡ attitude_in i c
  attitude_is i e1 e2 e3 e4 p1 p2 p3 p4 = rw (p1, p2, p3, p4)
