-- The bit pattern of the double ±n / 2^k: its fields, and that it is read as that number. The first digit of n is digit j; moved up by 52 − j it
-- stands where the exponent field begins, and adds one to it. Assumes nothing.
use mathlib.Core.Path.{◌≡◌, refl, sym, ap, ◌∙◌}
use mathlib.Core.Bool.{Bool, true, false}
use Prim.Native.Nat.{ℕ, zero, suc, ◌+◌, ◌-◌, ◌*◌, ◌%◌, ◌^◌, ◌≤◌, ◌<◌}
use native.Mathlib.Nat.{mul-le-mul_right, lt_of_lt_of_le}
use native.Mathlib.Omega.{arith}
use lib.Count.{count_leading_zeros, leading_top}
use lib.Dec.{T, eqb, leb}
use lib.Ieee.{odd, binary64, of_bits, to_bits, is_nan, nan_bits, fits}
use lib.Ieee.Bits.{to_bits-of_bits, of_bits-fits, nan_bits_is, nan_bits_above}
use lib.Pow.{pow-add, pow_pos, pow_mono, shl_lt}
use borrow.Author.Tests.{le-ltb, leb-true, leb-false}
use Rattle.float1750.proofs.Pattern.{packed, packed-read, odd_shifted, odd_cancelled, odd_counted}

-- digits beyond a number's own change nothing
odd_more : (e d : ℕ) (s : Bool) (q k l : ℕ) → 0 < q → q < 2 ^ d → odd (e + d) s q k l ≡ odd d s q k l
odd_more zero d s q k l p h = let same : 0 + d ≡ d = omega arith in ap (λ (m : ℕ). odd m s q k l) same
odd_more (suc e) d s q k l p h =
    let longer : 2 ^ d ≤ 2 ^ (e + d) = pow_mono (omega arith) in
    let same : suc e + d ≡ suc (e + d) = omega arith in
    ap (λ (m : ℕ). odd m s q k l) same ∙ odd_counted (e + d) s q k l p (lt_of_lt_of_le h longer) ∙ odd_more e d s q k l p h

-- the first digit of n, digit j, by the zeros before it in 64 bits
pub record First (n : ℕ) : Type 0 where
  pub digit : ℕ
  pub zeros : count_leading_zeros 64 n ≡ 63 - digit
  pub reached : 2 ^ digit ≤ n
  pub not_passed : n < 2 ^ suc digit
  pub early : digit ≤ 31

pub first-digit : (n : ℕ) → 0 < n → n < 2 ^ 32 → First n
first-digit n p h =
    let t = leading_top 64 n p (omega arith) in
    let j = t.0 in
    let early : j ≤ 31 = not_late j t.2 in
    record { digit = j; zeros = omega (arith, t.1); reached = t.2; not_passed = t.3; early = early }
  where
    not_late : (j : ℕ) → 2 ^ j ≤ n → j ≤ 31
    not_late j r = go (leb 32 j) refl
      where
        go : (b : Bool) → leb 32 j ≡ b → j ≤ 31
        go true e = let high : 2 ^ 32 ≤ 2 ^ j = pow_mono (leb-true 32 j e) in omega arith
        go false e = let low : j < 32 = leb-false 32 j e in omega arith

module _ (g n k j : ℕ) (G : g ≤ 1) (first : 2 ^ j ≤ n) (below : n < 2 ^ suc j) (J : j ≤ 31) (K : k < 256) where
  -- how far n is moved, and the field before its first digit adds one
  abbrev pub shift : ℕ
  shift = 52 - j

  abbrev pub field : ℕ
  field = 1074 - k - shift

  abbrev pub moved : ℕ
  moved = n * 2 ^ shift

  pub moved-least : 2 ^ 52 ≤ moved
  moved-least =
      let powers : j + shift ≡ 52 = omega arith in
      let whole : 2 ^ j * 2 ^ shift ≡ 2 ^ 52 = sym (pow-add 2 j shift) ∙ ap (λ (m : ℕ). 2 ^ m) powers in
      omega (arith, mul-le-mul_right (2 ^ shift) first)

  pub moved-most : moved < 2 ^ 53
  moved-most =
      let powers : suc j + shift ≡ 53 = omega arith in
      let whole : 2 ^ (suc j + shift) ≡ 2 ^ 53 = ap (λ (m : ℕ). 2 ^ m) powers in
      omega (arith, shl_lt (suc j) shift below)

  pub moved-fits : moved % 2 ^ 64 ≡ moved
  moved-fits = let m = moved-most in omega arith

  abbrev pub pattern : ℕ
  pattern = g * 2 ^ 63 + field * 2 ^ 52 + moved

  positive : 0 < n
  positive = omega (arith, pow_pos j)

  -- the fraction bits are n's digits but the first
  pub is_packed : pattern ≡ packed g field (moved - 2 ^ 52)
  is_packed = let l = moved-least in omega arith

  pub pattern-below : pattern < 2 ^ 64
  pattern-below = let m = moved-most in omega arith

  pub pattern-finite : nan_bits binary64 pattern ≡ false
  pattern-finite =
      let m = moved-most in
      let rest : pattern % 2 ^ 63 ≡ field * 2 ^ 52 + moved = omega arith in
      nan_bits_above binary64 pattern ∙ le-ltb (2047 * 2 ^ 52) (pattern % 2 ^ 63) (omega arith)

  pub pattern-read : of_bits binary64 pattern ≡ odd 53 (eqb g 1) n 0 k
  pattern-read =
      let l = moved-least in
      let m = moved-most in
      let s = eqb g 1 in
      let whole : 2 ^ 52 + (moved - 2 ^ 52) ≡ moved = omega arith in
      let digits : suc j + shift ≡ 53 = omega arith in
      let more : shift + suc j ≡ 53 = omega arith in
      let up : field + shift ≡ 0 + (field + shift) = omega arith in
      let down : k + (field + shift) ≡ 1074 = omega arith in
      ap (of_bits binary64) is_packed
      ∙ packed-read g field (moved - 2 ^ 52) G (omega arith) (omega arith)
      ∙ ap (λ (q : ℕ). odd 53 s q field 1074) whole
      ∙ ap (λ (d : ℕ). odd d s moved field 1074) (sym digits)
      ∙ odd_shifted shift (suc j) s n field 1074 positive (omega arith)
      ∙ ap (λ (e : ℕ). odd (suc j) s n (field + shift) e) (sym down)
      ∙ ap (λ (e : ℕ). odd (suc j) s n e (k + (field + shift))) up
      ∙ odd_cancelled (field + shift) (suc j) s n 0 k positive
      ∙ sym (odd_more shift (suc j) s n 0 k positive below)
      ∙ ap (λ (d : ℕ). odd d s n 0 k) more

  pub value-bits : to_bits binary64 (odd 53 (eqb g 1) n 0 k) ≡ pattern
  value-bits =
      let finite : is_nan (of_bits binary64 pattern) ≡ false = sym (nan_bits_is binary64 pattern) ∙ pattern-finite in
      rw (← pattern-read) (to_bits-of_bits binary64 pattern pattern-below (rw finite tt))

  pub value-fits : T (fits binary64 (odd 53 (eqb g 1) n 0 k))
  value-fits = rw (← pattern-read) (of_bits-fits binary64 pattern)

-- ---- the pattern as the code makes it, from the zeros before the first digit
module _ (g n k : ℕ) (h : (g ≤ 1) × (0 < n) × (n < 2 ^ 32)) (K : k < 256) where
  abbrev pub places : ℕ
  places = count_leading_zeros 64 n - 11

  abbrev pub made : ℕ
  made = g * 2 ^ 63 + (1074 - k - places) * 2 ^ 52 + n * 2 ^ places % 2 ^ 64

  pub zeros_before : (11 ≤ count_leading_zeros 64 n) × (places < 64)
  zeros_before = let t = first-digit n h.1 h.2 in (omega arith, omega arith)

  -- a pattern of 64 bits, no NaN's, that is read as the number
  pub record Reads (b : ℕ) : Type 0 where
    pub below : b < 2 ^ 64
    pub finite : nan_bits binary64 b ≡ false
    pub is : of_bits binary64 b ≡ odd 53 (eqb g 1) n 0 k

  pub made-read : Reads made
  made-read = go (first-digit n h.1 h.2)
    where
      go : First n → Reads made
      go t =
          let j = t.digit in
          let same : places ≡ 52 - j = omega arith in
          let fits = moved-fits g n k j h.0 t.reached t.not_passed t.early K in
          let p : Reads (pattern g n k j h.0 t.reached t.not_passed t.early K) = record {
            below = pattern-below g n k j h.0 t.reached t.not_passed t.early K;
            finite = pattern-finite g n k j h.0 t.reached t.not_passed t.early K;
            is = pattern-read g n k j h.0 t.reached t.not_passed t.early K;
          } in
          rw (same, fits) p
