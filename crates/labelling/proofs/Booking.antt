-- A payment adds one to the count of whoever is on duty, and so to the sum of the eight. Each count is at most the sum, so that a bound of the
-- sum bounds them all. Assumes nothing.
use mathlib.Core.Path.{◌≡◌, refl, sym}
use mathlib.Core.Bool.{Bool, true, false, ◌&&◌}
use mathlib.Core.List.{List, [], ◌∷◌}
use Prim.Native.Nat.{ℕ, zero, suc, ◌+◌, ◌^◌, ◌≤◌, ◌<◌}
use native.Mathlib.Nat.{add-zero}
use native.Mathlib.Omega.{arith}
use lib.Dec.{T, eqb, leb→le, le→leb}
use lib.Ieee.Fits.{and_i, and_l, and_r}
use lib.ListN.{length, get_or, set, length-set}
use lib.Seq.{get_or-set_same, get_or-set_other}
use borrow.Author.Tests.{eqb-true, eqb-false}
use Rattle.base.specs.Lists.{sum_by, one}
use Rattle.labelling.specs.declared.Operators.{Operators}
use Rattle.labelling.specs.Operators.{paid_to, paid_in_all, booked}
use Rattle.labelling.specs.Order.{within, every}

-- ---- the limit of each count

pub each_within : (l : List ℕ) (k : ℕ) → T (every within l) → get_or l k 0 ≤ 2 ^ 40
each_within [] k h = omega arith
each_within (n ∷ l) zero h = leb→le n (2 ^ 40) (and_l (within n) (every within l) h)
each_within (n ∷ l) (suc k) h = each_within l k (and_r (within n) (every within l) h)

pub all-within : (l : List ℕ) → sum_by (λ n. n) l ≤ 2 ^ 40 → T (every within l)
all-within [] h = tt
all-within (n ∷ l) h = and_i (within n) (every within l) (le→leb n (2 ^ 40) (omega arith)) (all-within l (omega arith))

-- ---- a payment

-- n more at one place of a list are n more in all
sum-set : (l : List ℕ) (i n : ℕ) → i < length l → sum_by (λ x. x) (set l i (get_or l i 0 + n)) ≡ sum_by (λ x. x) l + n
sum-set [] i n h = absurd (omega arith)
sum-set (x ∷ l) zero n h = omega arith
sum-set (x ∷ l) (suc i) n h = omega (arith, sum-set l i n (omega arith))

module _ (c : Bool) (o : Operators) where
  pub booked-length : length (booked c o).paid ≡ length o.paid
  booked-length = length-set o.paid o.duty (paid_to o.duty o + one c)

  pub booked-sum : o.duty < length o.paid → paid_in_all (booked c o) ≡ paid_in_all o + one c
  booked-sum h = sum-set o.paid o.duty (one c) h

  pub booked-to : (k : ℕ) → o.duty < length o.paid → paid_to k (booked c o) ≡ paid_to k o + one (c && eqb o.duty k)
  booked-to k h = go (eqb o.duty k) refl
    where
      more : ℕ
      more = paid_to o.duty o + one c

      off : (c : Bool) → one (c && false) ≡ 0
      off true = refl
      off false = refl

      on : (c : Bool) → one (c && true) ≡ one c
      on true = refl
      on false = refl

      go : (e : Bool) → eqb o.duty k ≡ e → get_or (set o.paid o.duty more) k 0 ≡ paid_to k o + one (c && e)
      go true q = rw (← eqb-true o.duty k q, on c) (get_or-set_same o.paid o.duty more 0 h)
      go false q = rw (off c, add-zero) (get_or-set_other o.paid o.duty k more 0 (λ e. eqb-false o.duty k q (sym e)))
