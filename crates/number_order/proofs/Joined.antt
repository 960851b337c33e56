-- Tests joined, and counts joined by `|`: what is joined is no less than each count and no more than their sum. Assumes nothing.
use mathlib.Core.Path.{◌≡◌, refl, sym, ◌∙◌}
use mathlib.Core.Bool.{Bool, true, false, not, ◌&&◌, ◌||◌, true≢false}
use mathlib.Core.List.{List, [], ◌∷◌}
use Prim.Native.Nat.{ℕ, ◌+◌, ◌≤◌}
use native.Mathlib.Omega.{arith}
use lib.Bits.{bit_or, or_add_and, and_le_l, and_le_r}
use lib.Dec.{ltb}
use borrow.Author.Tests.{ltb-false, le-ltb}
use Rattle.base.specs.Lists.{sum_by}

-- ---- tests

pub neither : (a b : Bool) → (a || b) ≡ false → (a ≡ false) × (b ≡ false)
neither true b e = absurd (true≢false e)
neither false b e = (refl, e)

pub equal : (a b : Bool) → (a ≡ true → b ≡ true) → (b ≡ true → a ≡ true) → a ≡ b
equal true b to from = sym (to refl)
equal false true to from = from refl
equal false false to from = refl

pub absorbed : (a b : Bool) → (a && (not a || b)) ≡ (a && b)
absorbed true b = refl
absorbed false b = refl

-- where b would make the test fail, and it holds
pub refuted : (test b : Bool) → test ≡ true → (b ≡ true → test ≡ false) → false ≡ b
refuted test true e f = absurd (true≢false (sym e ∙ f refl))
refuted test false e f = refl

-- ---- counts

-- a and the others, as the code joins them
abbrev pub joined : ℕ → List ℕ → ℕ
joined a [] = a
joined a (b ∷ l) = joined (bit_or a b) l

abbrev pub Each : ℕ → List ℕ → Type 0
Each m [] = Unit {0}
Each m (a ∷ l) = (a ≤ m) × Each m l

pub each_within : (wide a : ℕ) (l : List ℕ) → joined a l ≤ wide → Each wide (a ∷ l)
each_within wide a [] h = (h, tt)
each_within wide a (b ∷ l) h =
    let r = each_within wide (bit_or a b) l h in
    (omega (arith, r.0, or_add_and a b, and_le_r a b), (omega (arith, r.0, or_add_and a b, and_le_l a b), r.1))

pub sum_over : (a : ℕ) (l : List ℕ) → joined a l ≤ a + sum_by (λ k. k) l
sum_over a [] = omega arith
sum_over a (b ∷ l) = omega (arith, sum_over (bit_or a b) l, or_add_and a b)

-- the test of what is joined against a bound
module _ (wide a : ℕ) (l : List ℕ) where
  pub passed-each : ltb wide (joined a l) ≡ false → Each wide (a ∷ l)
  passed-each e = each_within wide a l (ltb-false wide (joined a l) e)

  pub sum-passes : a + sum_by (λ k. k) l ≤ wide → ltb wide (joined a l) ≡ false
  sum-passes h = le-ltb wide (joined a l) (omega (arith, sum_over a l))
