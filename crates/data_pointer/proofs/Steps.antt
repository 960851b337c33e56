-- The sequence in closed form: n steps add 38 n modulo 85, and 47 undoes 38. Assumes nothing.
use mathlib.Core.Path.{◌≡◌, refl}
use mathlib.Core.Bool.{Bool, true, false}
use Prim.Native.Nat.{ℕ, zero, suc, ◌+◌, ◌-◌, ◌*◌, ◌/◌, ◌%◌, ◌≤◌, ◌<◌}
use native.Mathlib.Omega.{arith}
use borrow.Author.Tests.{ltb-true, ltb-false, lt-ltb, le-ltb, le-leb, lt-leb}
use lib.Dec.{ltb}
use Rattle.data_pointer.specs.Sequence.{next, previous, steps, Fewest}

-- ---- one step

pub next-below : (p : ℕ) → p < 47 → next p ≡ p + 38
unfolding next
next-below p h = rw lt-ltb

pub next-from : (p : ℕ) → 47 ≤ p → next p ≡ p - 47
unfolding next
next-from p h = rw le-ltb

pub previous-below : (p : ℕ) → p < 38 → previous p ≡ p + 47
unfolding previous
previous-below p h = rw (lt-leb 38 p h)

pub previous-from : (p : ℕ) → 38 ≤ p → previous p ≡ p - 38
unfolding previous
previous-from p h = rw (le-leb 38 p h)

pub next-mod : (p : ℕ) → p ≤ 84 → next p ≡ (p + 38) % 85
next-mod p h = by_half (ltb p 47) refl
  where
    by_half : (b : Bool) → ltb p 47 ≡ b → next p ≡ (p + 38) % 85
    by_half true e = omega (arith, next-below p (ltb-true p 47 e), ltb-true p 47 e)
    by_half false e = omega (arith, next-from p (ltb-false p 47 e), ltb-false p 47 e)

pub previous-mod : (p : ℕ) → p ≤ 84 → previous p ≡ (p + 47) % 85
previous-mod p h = by_half (ltb p 38) refl
  where
    by_half : (b : Bool) → ltb p 38 ≡ b → previous p ≡ (p + 47) % 85
    by_half true e = omega (arith, previous-below p (ltb-true p 38 e), ltb-true p 38 e)
    by_half false e = omega (arith, previous-from p (ltb-false p 38 e), ltb-false p 38 e)

module _ (p : ℕ) (h : p ≤ 84) where
  pub next-pointer : next p ≤ 84
  next-pointer = omega (arith, next-mod p h)

  pub previous-pointer : previous p ≤ 84
  previous-pointer = omega (arith, previous-mod p h)

  pub previous-next : previous (next p) ≡ p
  previous-next = omega (arith, previous-mod (next p) next-pointer, next-mod p h)

  pub next-previous : next (previous p) ≡ p
  next-previous = omega (arith, next-mod (previous p) previous-pointer, previous-mod p h)

-- ---- n steps

pub steps-mod : (n p : ℕ) → p ≤ 84 → steps n p ≡ (p + 38 * n) % 85
unfolding steps
steps-mod zero p h = omega arith
steps-mod (suc n) p h =
    let one = next-mod p h in
    let others = steps-mod n (next p) (next-pointer p h) in
    omega arith

pub steps-pointer : (n p : ℕ) → p ≤ 84 → steps n p ≤ 84
steps-pointer n p h = omega (arith, steps-mod n p h)

-- a step first, then the others
pub steps-suc : (n p : ℕ) → steps (suc n) p ≡ steps n (next p)
unfolding steps
steps-suc n p = refl

pub no_steps : (p : ℕ) → steps 0 p ≡ p
unfolding steps
no_steps p = refl

-- ---- the fewest steps between two pointers

abbrev pub between : ℕ → ℕ → ℕ
between p q = (q + 85 - p) * 47 % 85

-- 38 × 47 is 21 × 85 + 1, so the quotients by 85 fit together
pub fewest : (p q : ℕ) → p ≤ 84 → q ≤ 84 → Fewest p q (between p q)
fewest p q hp hq =
    record {
      leads =
          let s = steps-mod n p hp in
          let quotients : (p + 38 * n) / 85 + 38 * (up * 47 / 85) ≡ 21 * up + 1 = omega arith in
          omega arith;
      smallest = λ m led.
          let s = steps-mod m p hp in
          let quotients : 47 + 21 * m ≤ up * 47 / 85 + 47 * ((p + 38 * m) / 85) = omega arith in
          omega arith;
      within = omega arith;
    }
  where
    up : ℕ
    up = q + 85 - p

    n : ℕ
    n = between p q
