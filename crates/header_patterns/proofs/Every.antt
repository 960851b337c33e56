-- A test at each number below n: what is tested of each of them holds of each of them. Assumes nothing.
use mathlib.Core.Path.{◌≡◌, subst, sym}
use mathlib.Core.Bool.{Bool, true, ◌&&◌}
use mathlib.Core.Logic.{⊎_elim}
use Prim.Native.Nat.{ℕ, zero, suc, ◌<◌}
use native.Mathlib.Nat.{not-suc-le-zero, eq-or-lt_of_le, le_of_suc-le-suc}
use lib.Dec.{T, eqb, eqb→eq}
use lib.Ieee.Fits.{and_l, and_r}

abbrev pub all : ℕ → (ℕ → Bool) → Bool
all zero f = true
all (suc n) f = f n && all n f

pub each : (n : ℕ) (f : ℕ → Bool) → T (all n f) → (k : ℕ) → k < n → T (f k)
each zero f t k h = absurd (not-suc-le-zero h)
each (suc n) f t k h =
    ⊎_elim (λ e. subst (λ (m : ℕ). T (f m)) (sym e) (and_l (f n) (all n f) t)) (λ l. each n f (and_r (f n) (all n f) t) k l)
    (eq-or-lt_of_le (le_of_suc-le-suc h))

-- of two numbers, the first below m and the second below n
pub each2 : (m n : ℕ) (f : ℕ → ℕ → Bool) → T (all m (λ a. all n (f a))) → (a b : ℕ) → a < m → b < n → T (f a b)
each2 m n f t a b ha hb = each n (f a) (each m (λ a. all n (f a)) t a ha) b hb

-- two functions that agree at each pair below m and n
pub same2 : (m n : ℕ) (f g : ℕ → ℕ → ℕ) → T (all m (λ a. all n (λ b. eqb (f a b) (g a b)))) → (a b : ℕ) → a < m → b < n → f a b ≡ g a b
same2 m n f g t a b ha hb = eqb→eq (f a b) (g a b) (each2 m n (λ a b. eqb (f a b) (g a b)) t a b ha hb)
