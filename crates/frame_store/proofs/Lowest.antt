-- The lowest slot that is free: what a search finds, and what the code's count of trailing zeros is. Assumes nothing.
use mathlib.Core.Path.{◌≡◌, refl, sym, ap, ◌∙◌}
use mathlib.Core.Bool.{Bool, true, false, cond, not}
use mathlib.Core.Logic.{◌⊎◌, inl, inr}
use Prim.Native.Nat.{ℕ, zero, suc, ◌+◌, ◌-◌, ◌*◌, ◌/◌, ◌%◌, ◌^◌, ◌≤◌, ◌<◌}
use native.Mathlib.Nat.{eq-or-lt_of_le, pow-succ'}
use native.Mathlib.Omega.{arith}
use borrow.Author.Tests.{ltb-true, ltb-false}
use lib.Count.{count_trailing_zeros, under}
use lib.Dec.{ltb}
use Rattle.frame_store.specs.Slots.{is_in_use, lowest, lowest_free}
use Rattle.frame_store.proofs.Bits.{bit-suc, bit-even, bit-odd}

-- tests that agree find the same
pub same-lowest : (test other : ℕ → Bool) → ((i : ℕ) → test i ≡ other i) → (i n : ℕ) → lowest test i n ≡ lowest other i n
unfolding lowest
same-lowest test other same i zero = refl
same-lowest test other same i (suc n) = rw (same i, same-lowest test other same (suc i) n)

pub clash : {b : Bool} → b ≡ true → b ≡ false → ⊥
clash {b} t f = let z : ◌≡◌ {A = Bool} true false = sym t ∙ f in let y : ◌≡◌ {A = ℕ} 0 1 = cc in omega arith

module _ (bits : ℕ) where
  -- of the n slots from i on, this one is the lowest that is free; i + n where none is
  record FreeFrom (i n slot : ℕ) : Type 0 where
    at_least : i ≤ slot
    within : slot ≤ i + n
    lower : (j : ℕ) → i ≤ j → j < slot → is_in_use bits j ≡ true
    free : slot < i + n → is_in_use bits slot ≡ false

  abbrev search : ℕ → ℕ → ℕ
  search i n = lowest (λ j. not (is_in_use bits j)) i n

  finds : (n i : ℕ) → FreeFrom i n (search i n)
  unfolding lowest
  finds zero i =
      record { at_least = omega arith; within = omega arith; lower = λ j l h. absurd (omega arith); free = λ l. absurd (omega arith) }
  finds (suc n) i = first (is_in_use bits i) refl (finds n (suc i))
    where
      first : (b : Bool) → is_in_use bits i ≡ b → FreeFrom (suc i) n (search (suc i) n) → FreeFrom i (suc n) (cond (not b) i (search (suc i) n))
      first false e f = record { at_least = omega arith; within = omega arith; lower = λ j l h. absurd (omega arith); free = λ l. e }
      first true e f =
          record {
            at_least = omega (arith, f.at_least);
            within = omega (arith, f.within);
            lower = λ j l h. from-i j h (eq-or-lt_of_le l);
            free = λ l. f.free (omega arith);
          }
        where
          from-i : (j : ℕ) → j < search (suc i) n → (i ≡ j) ⊎ (i < j) → is_in_use bits j ≡ true
          from-i j h (inl z) = ap (is_in_use bits) (sym z) ∙ e
          from-i j h (inr l) = f.lower j l h

  -- the same from slot 0 on
  pub record Lowest (n slot : ℕ) : Type 0 where
    pub within : slot ≤ n
    pub lower : (j : ℕ) → j < slot → is_in_use bits j ≡ true
    pub free : slot < n → is_in_use bits slot ≡ false

  pub found : (n : ℕ) → Lowest n (lowest_free n bits)
  found n =
      let f = finds n 0 in
      record { within = omega (arith, f.within); lower = λ j l. f.lower j (omega arith) l; free = λ l. f.free (omega arith) }

  -- there is one only
  pub only : {n s t : ℕ} → Lowest n s → Lowest n t → s ≡ t
  only {n} {s} {t} f g = compared (ltb s t) refl (ltb t s) refl
    where
      compared : (x : Bool) → ltb s t ≡ x → (y : Bool) → ltb t s ≡ y → s ≡ t
      compared true e y d = absurd (clash (g.lower s (ltb-true s t e)) (f.free (omega (arith, ltb-true s t e, g.within))))
      compared false e true d = absurd (clash (f.lower t (ltb-true t s d)) (g.free (omega (arith, ltb-true t s d, f.within))))
      compared false e false d = omega (arith, ltb-false s t e, ltb-false t s d)

  -- of more slots the lowest is the same where it is among the first n, and else none of those is free
  pub among : (n m : ℕ) → n ≤ m → lowest_free m bits < n → lowest_free n bits ≡ lowest_free m bits
  among n m h l =
      let f = found m in
      only (found n) (record { within = omega arith; lower = f.lower; free = λ z. f.free (omega arith) })

  pub none-among : (n m : ℕ) → n ≤ m → n ≤ lowest_free m bits → lowest_free n bits ≡ n
  none-among n m h l =
      let f = found m in
      only (found n) (record { within = omega arith; lower = λ j b. f.lower j (omega arith); free = λ z. absurd (omega arith) })

-- ---- the zeros below the lowest set bit of the complement

trailing : (k b : ℕ) → b < 2 ^ k → Lowest b k (count_trailing_zeros k (2 ^ k - 1 - b))
unfolding count_trailing_zeros
trailing zero b h = record { within = omega arith; lower = λ j l. absurd (omega arith); free = λ l. absurd (omega arith) }
trailing (suc k) b h =
    let p = pow-succ' 2 k in
    let half : (2 ^ suc k - 1 - b) / 2 ≡ 2 ^ k - 1 - b / 2 = omega arith in
    let below = trailing k (b / 2) (omega arith) in
    rw half (step (2 ^ k) p ((2 ^ suc k - 1 - b) % 2) refl _ below)
  where
    higher : (t : ℕ) → Lowest (b / 2) k t → b % 2 ≡ 1 → Lowest b (suc k) (suc t)
    higher t f o = record { within = omega (arith, f.within); lower = lower; free = λ l. bit-suc b t ∙ f.free (omega arith) }
      where
        lower : (j : ℕ) → j < suc t → is_in_use b j ≡ true
        lower zero l = bit-odd b o
        lower (suc j) l = bit-suc b j ∙ f.lower j (omega arith)

    step : (m : ℕ) → 2 ^ suc k ≡ 2 * m → (d : ℕ) → (2 ^ suc k - 1 - b) % 2 ≡ d → (t : ℕ) → Lowest (b / 2) k t → Lowest b (suc k) (under d t)
    step m p zero e t f = higher t f (omega arith)
    step m p (suc d) e t f = record { within = omega arith; lower = λ j l. absurd (omega arith); free = λ l. bit-even b (omega arith) }

pub trailing_zeros : (k b : ℕ) → b < 2 ^ k → count_trailing_zeros k (2 ^ k - 1 - b) ≡ lowest_free k b
trailing_zeros k b h = only b (trailing k b h) (found b k)
