-- A count as an integer, as the code makes it: a number below 2^31, or one less 2^32. Assumes nothing.
use mathlib.Core.Path.{◌≡◌, ◌∙◌}
use Prim.Native.Nat.{ℕ, ◌^◌, ◌≤◌, ◌<◌}
use native.Mathlib.Omega.{arith}
use lib.IntN.{pos, sub_ℕ, ◌-ℤ◌}
use mir.Syntax.{w64}
use mir.Val.{to_z, of_z, SFits}
use mir.Facts.{to_z_pos, to_z-of_z}
use borrow.Author.Tests.{le-leb, lt-leb, lt-ltb}
use Rattle.fixed_point.specs.Counts.{signed}

module _ (n : ℕ) (N : n < 2 ^ 32) where
  read_back : to_z w64 n ≡ pos n
  read_back = to_z_pos w64 (omega arith)

  pub positive : n < 2 ^ 31 → to_z w64 n ≡ signed n
  unfolding signed
  positive h = read_back ∙ rw (lt-leb (2 ^ 31) n h)

  -- what the code takes 2^32 from is n itself
  less : to_z w64 n -ℤ pos 4294967296 ≡ sub_ℕ n 4294967296
  less = rw read_back

  fits : SFits w64 (to_z w64 n -ℤ pos 4294967296)
  fits = rw (less, lt-ltb n 4294967296 N) (record { sfits = omega arith })

  pub negative : 2 ^ 31 ≤ n → to_z w64 (of_z w64 (to_z w64 n -ℤ pos 4294967296)) ≡ signed n
  unfolding signed
  negative h = to_z-of_z fits ∙ less ∙ rw (le-leb (2 ^ 31) n h)
