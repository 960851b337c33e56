-- The bits of a number: one set, one cleared. Assumes nothing.
use mathlib.Core.Path.{◌≡◌, refl, sym, ap, ◌∙◌}
use mathlib.Core.Bool.{true, false, cond}
use Prim.Native.Nat.{ℕ, zero, suc, ◌+◌, ◌-◌, ◌*◌, ◌/◌, ◌%◌, ◌^◌, ◌≤◌, ◌<◌}
use native.Mathlib.Nat.{div-one, div-div-eq-div-mul, pow-succ'}
use native.Mathlib.Omega.{arith}
use borrow.Author.Tests.{eqb-true, eqb-false, eq-eqb, ne_eqb}
use lib.Dec.{eqb, eqb-suc-suc, eqb-zero-suc, eqb-suc-zero}
use lib.Pow.{shl_exact}
use Rattle.frame_store.specs.Slots.{is_in_use}

-- ---- a bit, by halving

bit-zero : (b : ℕ) → is_in_use b 0 ≡ eqb (b % 2) 1
unfolding is_in_use
bit-zero b = rw div-one

pub bit-suc : (b i : ℕ) → is_in_use b (suc i) ≡ is_in_use (b / 2) i
unfolding is_in_use
bit-suc b i = ap (λ (n : ℕ). eqb (n % 2) 1) (ap (λ (m : ℕ). b / m) (pow-succ' 2 i) ∙ sym (div-div-eq-div-mul b 2 (2 ^ i)))

odd : (b : ℕ) → is_in_use b 0 ≡ true → b % 2 ≡ 1
odd b h = eqb-true (b % 2) 1 (sym (bit-zero b) ∙ h)

even : (b : ℕ) → is_in_use b 0 ≡ false → b % 2 ≡ 0
even b h = let z = eqb-false (b % 2) 1 (sym (bit-zero b) ∙ h) in omega arith

pub bit-even : (b : ℕ) → b % 2 ≡ 0 → is_in_use b 0 ≡ false
bit-even b h = bit-zero b ∙ ne_eqb (b % 2) 1 (λ z. omega arith)

pub bit-odd : (b : ℕ) → b % 2 ≡ 1 → is_in_use b 0 ≡ true
bit-odd b h = bit-zero b ∙ eq-eqb (b % 2) 1 h

-- as the code tests it
pub bit-clear : (b i : ℕ) → b / 2 ^ i % 2 ≡ 0 → is_in_use b i ≡ false
unfolding is_in_use
bit-clear b i h = ne_eqb (b / 2 ^ i % 2) 1 (λ z. omega arith)

pub bit-set : (b i : ℕ) → (b / 2 ^ i % 2 ≡ 0 → ⊥) → is_in_use b i ≡ true
unfolding is_in_use
bit-set b i h = eq-eqb (b / 2 ^ i % 2) 1 (omega arith)

-- a shift of 64 bits that loses none
pub shifted : (i : ℕ) → i < 64 → 1 * 2 ^ i % 2 ^ 64 ≡ 2 ^ i
shifted i h = shl_exact {a = 1} 1 i 64 (omega arith) (omega arith) ∙ omega arith

pub no_bits : (i : ℕ) → is_in_use 0 i ≡ false
no_bits zero = bit-even 0 refl
no_bits (suc i) = bit-suc 0 i ∙ no_bits i

-- ---- a bit more
pub set-bit : (i j b : ℕ) → is_in_use b i ≡ false → is_in_use (b + 2 ^ i) j ≡ cond (eqb i j) true (is_in_use b j)
set-bit zero zero b h = let e = even b h in bit-odd (b + 1) (omega arith)
set-bit zero (suc j) b h =
    let e = even b h in
    let s : (b + 1) / 2 ≡ b / 2 = omega arith in
    bit-suc (b + 1) j ∙ rw (s, eqb-zero-suc) (sym (bit-suc b j))
set-bit (suc i) zero b h =
    let p = pow-succ' 2 i in
    let s : (b + 2 ^ suc i) % 2 ≡ b % 2 = omega arith in
    bit-zero (b + 2 ^ suc i) ∙ rw (s, eqb-suc-zero) (sym (bit-zero b))
set-bit (suc i) (suc j) b h =
    let p = pow-succ' 2 i in
    let s : (b + 2 ^ suc i) / 2 ≡ b / 2 + 2 ^ i = omega arith in
    bit-suc (b + 2 ^ suc i) j ∙ rw (s, eqb-suc-suc, bit-suc b j) (set-bit i j (b / 2) (sym (bit-suc b i) ∙ h))

pub set_below : (i n b : ℕ) → i < n → b < 2 ^ n → is_in_use b i ≡ false → b + 2 ^ i < 2 ^ n
set_below i zero b l h f = absurd (omega arith)
set_below zero (suc n) b l h f =
    let e = even b f in
    let p = pow-succ' 2 n in
    let s : b / 2 < 2 ^ n = omega arith in
    omega arith
set_below (suc i) (suc n) b l h f =
    let p = pow-succ' 2 n in
    let q = pow-succ' 2 i in
    let s = set_below i n (b / 2) (omega arith) (omega arith) (sym (bit-suc b i) ∙ f) in
    omega arith

-- ---- a bit less
pub bit_le : (i b : ℕ) → is_in_use b i ≡ true → 2 ^ i ≤ b
bit_le zero b h = let e = odd b h in omega arith
bit_le (suc i) b h =
    let p = pow-succ' 2 i in
    let s = bit_le i (b / 2) (sym (bit-suc b i) ∙ h) in
    omega arith

pub clear_bit : (i j b : ℕ) → is_in_use b i ≡ true → is_in_use (b - 2 ^ i) j ≡ cond (eqb i j) false (is_in_use b j)
clear_bit zero zero b h = let e = odd b h in bit-even (b - 1) (omega arith)
clear_bit zero (suc j) b h =
    let e = odd b h in
    let s : (b - 1) / 2 ≡ b / 2 = omega arith in
    bit-suc (b - 1) j ∙ rw (s, eqb-zero-suc) (sym (bit-suc b j))
clear_bit (suc i) zero b h =
    let p = pow-succ' 2 i in
    let l = bit_le (suc i) b h in
    let s : (b - 2 ^ suc i) % 2 ≡ b % 2 = omega arith in
    bit-zero (b - 2 ^ suc i) ∙ rw (s, eqb-suc-zero) (sym (bit-zero b))
clear_bit (suc i) (suc j) b h =
    let p = pow-succ' 2 i in
    let l = bit_le (suc i) b h in
    let s : (b - 2 ^ suc i) / 2 ≡ b / 2 - 2 ^ i = omega arith in
    bit-suc (b - 2 ^ suc i) j ∙ rw (s, eqb-suc-suc, bit-suc b j) (clear_bit i j (b / 2) (sym (bit-suc b i) ∙ h))
