-- The steps of locating, each from what the steps before it gave. Assumes nothing.
use mathlib.Core.Path.{◌≡◌}
use Prim.Native.Nat.{ℕ, ◌*◌, ◌^◌, ◌≤◌, ◌<◌}
use native.Mathlib.Omega.{arith}
use native.Mathlib.Nat.{mul-le-mul_left}
use lib.ListN.{get_or}
use borrow.Author.Tests.{eq-eqb, ne_eqb}
use Rattle.header_code.specs.Field.{◌⊕◌}
use Rattle.header_code.specs.Decoder.{digit, cell, products, quotients, roots, sixths, places, lifted, one, both, from_root, from_sums, two}
use Rattle.header_code.specs.Decoder.{by_determinant, from_values}

-- a symbol at its place fits a number of 64 bits
pub lift_fits : (a b : ℕ) → a < 16 → b ≤ 16 ^ 14 → a * b < 2 ^ 64
lift_fits a b ha hb = let h : a * b ≤ a * 16 ^ 14 = mul-le-mul_left a hb in omega arith

pub lift_law : (x f g a b : ℕ) → g ≡ digit sixths x → a ≡ cell products f g → b ≡ get_or places x 0 → a * b ≡ lifted x f
unfolding lifted
lift_law x f g a b eg ea eb = rw (ea, eb, eg)

pub one-law : (p q x r : ℕ) → x ≡ cell quotients q p → r ≡ lifted x p → r ≡ one p q
unfolding one
one-law p q x r ex er = rw (er, ex)

pub from_sums-law : (p q t u x y m k f g a b : ℕ) → x ≡ cell roots t u → y ≡ t ⊕ x → m ≡ cell products p y → k ≡ q ⊕ m → f ≡ cell quotients k t
    → a ≡ lifted x f → g ≡ p ⊕ f → b ≡ lifted y g → a ⊕ b ≡ from_sums p q t u
unfolding from_sums from_root both
from_sums-law p q t u x y m k f g a b ex ey em ek ef ea eg eb = rw (eb, eg, ea, ef, ek, em, ey, ex)

-- the sum of two products, divided by d
pub ratio_law : (a b c d e m n k t : ℕ) → m ≡ cell products a b → n ≡ cell products c e → k ≡ m ⊕ n → t ≡ cell quotients k d
    → t ≡ cell quotients (cell products a b ⊕ cell products c e) d
ratio_law a b c d e m n k t em en ek et = rw (et, ek, em, en)

pub two-law : (p q r s d t u e : ℕ) → t ≡ cell quotients (cell products p s ⊕ cell products q r) d
    → u ≡ cell quotients (cell products q s ⊕ cell products r r) d → e ≡ from_sums p q t u → e ≡ two p q r s d
unfolding two
two-law p q r s d t u e et eu ee = rw (ee, et, eu)

module _ (p q r s m n d e : ℕ) (em : m ≡ cell products p r) (en : n ≡ cell products q q) (ed : d ≡ m ⊕ n) where
  pub one-wrong : d ≡ 0 → e ≡ one p q → e ≡ from_values p q r s
  unfolding from_values by_determinant
  one-wrong z ee = rw (← en, ← em, ← ed, eq-eqb d 0 z) ee

  pub two-wrong : (d ≡ 0 → ⊥) → e ≡ two p q r s d → e ≡ from_values p q r s
  unfolding from_values by_determinant
  two-wrong z ee = rw (← en, ← em, ← ed, ne_eqb d 0 z) ee
