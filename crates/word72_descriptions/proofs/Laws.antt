-- The lines of the descriptions. Assumes nothing.
use mathlib.Core.Path.{◌≡◌, refl}
use Prim.Native.Nat.{ℕ, zero, suc, ◌+◌, ◌≤◌}
use native.Mathlib.Omega.{arith}
use lib.ListN.{length}
use Rattle.word72_items.specs.Layout.{table17, table18, table19, table20}
use Rattle.word72_items.specs.ItemTable.{layout, count_of_items}
use Rattle.word72_descriptions.specs.Descriptions.{descriptions, first_line}

pub first_small : (k : ℕ) → first_line k ≤ 163
first_small zero = omega arith
first_small (suc zero) = omega arith
first_small (suc (suc zero)) = omega arith
first_small (suc (suc (suc zero))) = omega arith
first_small (suc (suc (suc (suc k)))) = omega arith

-- each item of each kind has its line
pub one-line_each : (length descriptions ≡ 163)
    × (first_line 1 ≡ count_of_items 0)
    × (first_line 2 ≡ first_line 1 + count_of_items 1)
    × (first_line 3 ≡ first_line 2 + count_of_items 2)
    × (163 ≡ first_line 3 + count_of_items 3)
unfolding layout table17 table18 table19 table20
one-line_each = (refl, refl, refl, refl, refl)

-- a kind that is none of four
pub no_first_line : (k : ℕ) → (k ≡ 0 → ⊥) → (k ≡ 1 → ⊥) → (k ≡ 2 → ⊥) → (k ≡ 3 → ⊥) → 163 ≡ first_line k
no_first_line zero a b c d = absurd (a refl)
no_first_line (suc zero) a b c d = absurd (b refl)
no_first_line (suc (suc zero)) a b c d = absurd (c refl)
no_first_line (suc (suc (suc zero))) a b c d = absurd (d refl)
no_first_line (suc (suc (suc (suc k)))) a b c d = refl
