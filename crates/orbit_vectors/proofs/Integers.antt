-- An integer of 32 bits lies at most 2^32 − 1 above the least, 2^31 below 0. Assumes nothing.
use mathlib.Core.Path.{◌≡◌, refl}
use mathlib.Core.Bool.{false}
use Prim.Native.Nat.{ℕ, suc, ◌+◌, ◌-◌, ◌^◌, ◌≤◌, ◌<◌}
use native.Mathlib.Omega.{arith}
use lib.Dec.{T}
use lib.IntN.{ℤ, pos, negsuc, nat_abs, ◌+ℤ◌}
use lib.Signed.{lt_z, non_neg}
use mir.Syntax.{w64}
use mir.Val.{Fits, SFits, to_z, of_z}
use mir.Facts.{to_z-of_z}
use borrow.Author.Tests.{ltb-false, le-ltb}

-- how far it lies above the least
pub record Raised (z : ℤ) : Type 0 where
  pub by : ℕ
  pub is : z +ℤ pos 2147483648 ≡ pos by
  pub below : by < 2 ^ 32

pub raised : (z : ℤ) → lt_z z (negsuc 2147483647) ≡ false → lt_z (pos 2147483647) z ≡ false → Raised z
raised (pos n) low high = record { by = n + 2147483648; is = refl; below = omega (arith, ltb-false 2147483647 n high) }
raised (negsuc n) low high =
    let most : n ≤ 2147483647 = ltb-false 2147483647 n low in
    record { by = 2147483648 - suc n; is = rw (le-ltb 2147483648 (suc n) (omega arith)); below = omega arith }

module _ (z : ℤ) (r : Raised z) where
  pub sum_fits : SFits w64 (z +ℤ pos 2147483648)
  sum_fits = rw r.is (record { sfits = omega (arith, r.below) })

  pub sum-casts : T (non_neg (to_z w64 (of_z w64 (z +ℤ pos 2147483648)))) × Fits w64 (nat_abs (to_z w64 (of_z w64 (z +ℤ pos 2147483648))))
  sum-casts = rw (to_z-of_z sum_fits, r.is) (tt, record { fits = omega (arith, r.below) })
