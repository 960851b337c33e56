-- The double of a count is exactly it, and no other double is. Assumes nothing.
use mathlib.Core.Path.{◌≡◌, refl, sym, ap, ◌∙◌}
use mathlib.Core.Bool.{true, false}
use Prim.Native.Nat.{ℕ, zero, suc, ◌+◌, ◌-◌, ◌*◌, ◌^◌, ◌≤◌, ◌<◌}
use native.Mathlib.Nat.{mul_assoc, eq_of_mul-eq-mul_right}
use native.Mathlib.Omega.{arith}
use lib.Dec.{T, eqb}
use lib.Ieee.{Float, odd, binary64, of_bits, to_bits, fits}
use lib.Ieee.Bits.{to_bits-lt}
use lib.Pow.{pow-add, pow_pos}
use borrow.Author.Tests.{le-leb, lt-leb}
use Rattle.base.specs.Lists.{one}
use Rattle.float1750.specs.Double.{bits_of, sign_of, exponent, fraction}
use Rattle.float1750.proofs.Pattern.{packed, packed-exponent, packed-fraction}
use Rattle.float1750.proofs.Exactness.{one_form, same_bits, same-double}
use Rattle.fixed_point.specs.Counts.{is_negative, magnitude, scaled, Exact}
use Rattle.fixed_point.specs.Promise.{ScaledPromise}
use Rattle.fixed_point.proofs.Doubles.{first-digit, moved-least, moved-most, is_packed, value-bits, value-fits}

-- ---- the double ±n / 2^k, over whole numbers
module _ (g n k : ℕ) (G : g ≤ 1) (P : 0 < n) (N : n < 2 ^ 32) (K : k < 256) where
  abbrev value : Float
  value = odd 53 (eqb g 1) n 0 k

  pub positive_sign : sign_of value ≡ g
  positive_sign =
      let t = first-digit n P N in
      let m = moved-most g n k t.digit G t.reached t.not_passed t.early K in
      rw (value-bits g n k t.digit G t.reached t.not_passed t.early K) (omega arith)

  pub positive_fits : T (fits binary64 value)
  positive_fits = let t = first-digit n P N in value-fits g n k t.digit G t.reached t.not_passed t.early K

  pub positive_whole : (2 ^ 52 + fraction value) * 2 ^ exponent value * 2 ^ k ≡ n * 2 ^ 1075
  positive_whole = let t = first-digit n P N in go t.digit t.reached t.not_passed t.early
    where
      go : (j : ℕ) → 2 ^ j ≤ n → n < 2 ^ suc j → j ≤ 31 → (2 ^ 52 + fraction value) * 2 ^ exponent value * 2 ^ k ≡ n * 2 ^ 1075
      go j first below J =
          let s = 52 - j in
          let x = 1074 - k - s in
          let l = moved-least g n k j G first below J K in
          let m = moved-most g n k j G first below J K in
          let bits : bits_of value ≡ packed g x (n * 2 ^ s - 2 ^ 52) = value-bits g n k j G first below J K ∙ is_packed g n k j G first below J K in
          let c : n * 2 ^ s - 2 ^ 52 < 2 ^ 52 = omega arith in
          let whole : 2 ^ 52 + (n * 2 ^ s - 2 ^ 52) ≡ n * 2 ^ s = omega arith in
          let powers : s + suc x + k ≡ 1075 = omega arith in
          let joined : n * 2 ^ s * 2 ^ suc x * 2 ^ k ≡ n * 2 ^ (s + suc x + k) =
          rw (pow-add 2 (s + suc x) k, pow-add 2 s (suc x), mul_assoc n (2 ^ s) (2 ^ suc x), mul_assoc n (2 ^ s * 2 ^ suc x) (2 ^ k)) in
          rw (bits, packed-fraction g x (n * 2 ^ s - 2 ^ 52) G (omega arith) c, packed-exponent g x (n * 2 ^ s - 2 ^ 52) G (omega arith) c, whole)
          (joined ∙ ap (λ (e : ℕ). n * 2 ^ e) powers)

-- ---- the double of a count
module _ (k n : ℕ) (N : n < 2 ^ 32) (K : k < 256) where
  pub only_exact : (u v : Float) → T (fits binary64 u) → T (fits binary64 v) → Exact k n u → Exact k n v → u ≡ v
  only_exact u v fu fv p q = same-double u v fu fv (go n refl)
    where
      go : (m : ℕ) → n ≡ m → bits_of u ≡ bits_of v
      go zero e = p.zero e ∙ sym (q.zero e)
      go (suc m) e =
          let P : 0 < n = omega arith in
          let unscaled = eq_of_mul-eq-mul_right (2 ^ k) (pow_pos k) ((2 ^ 52 + fraction u) * 2 ^ exponent u) ((2 ^ 52 + fraction v) * 2 ^ exponent v)
          (p.whole P ∙ sym (q.whole P)) in
          let form = one_form (fraction u) (fraction v) (exponent u) (exponent v) (omega arith) (omega arith) unscaled in
          same_bits (bits_of u) (bits_of v) (to_bits-lt binary64 u fu) (to_bits-lt binary64 v fv) (p.sign_is ∙ sym q.sign_is) form.0 form.1

  -- from the sign and the size of a count that is not 0
  pub promised : (g m : ℕ) (r : Float) → is_negative n ≡ eqb g 1 → magnitude n ≡ m → g ≤ 1 → 0 < m → m < 2 ^ 32 → 0 < n → r ≡ odd 53 (eqb g 1) m 0 k
      → ScaledPromise k n r
  unfolding scaled
  promised g m r sign size G P M p e =
      let is : r ≡ scaled k n = e ∙ rw (← sign, ← size) in
      let held : T (fits binary64 r) = rw e (positive_fits g m k G P M K) in
      let exact : Exact k n r = record {
        sign_is = rw (e, sign) (positive_sign g m k G P M K ∙ one_of g G);
        whole = λ h. rw (e, size) (positive_whole g m k G P M K);
        zero = λ z. absurd (omega arith);
      } in
      record { answer = is; exact = exact; only = λ u f x. only_exact u r f held x exact }
    where
      one_of : (g : ℕ) → g ≤ 1 → g ≡ one (eqb g 1)
      one_of zero h = refl
      one_of (suc zero) h = refl
      one_of (suc (suc g)) h = absurd (omega arith)

  pub promised_positive : (r : Float) → 0 < n → n < 2 ^ 31 → r ≡ odd 53 false n 0 k → ScaledPromise k n r
  promised_positive r p h e =
      let sign = lt-leb (2 ^ 31) n h in
      promised 0 n r sign (rw sign) (omega arith) p N p e

  pub promised_negative : (r : Float) → 2 ^ 31 ≤ n → r ≡ odd 53 true (2 ^ 32 - n) 0 k → ScaledPromise k n r
  promised_negative r h e =
      let sign = le-leb (2 ^ 31) n h in
      promised 1 (2 ^ 32 - n) r sign (rw sign) (omega arith) (omega arith) (omega arith) (omega arith) e

  pub promised_zero : n ≡ 0 → ScaledPromise k n (of_bits binary64 0)
  unfolding scaled odd of_bits to_bits fits
  promised_zero z =
      let bits : bits_of (of_bits binary64 0) ≡ 0 = refl in
      let exact : Exact k n (of_bits binary64 0) = record { sign_is = rw z; whole = λ h. absurd (omega arith); zero = λ h. bits } in
      record { answer = rw z; exact = exact; only = λ u f x. only_exact u (of_bits binary64 0) f tt x exact }
