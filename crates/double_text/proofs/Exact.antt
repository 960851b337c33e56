-- The text of a double denotes exactly its number: read as decimal digits, without the point, it is n × f^k; no digit is cut off. Assumes nothing.
use mathlib.Core.Path.{◌≡◌, refl, sym, ap, ◌∙◌}
use mathlib.Core.Bool.{Bool, true, false, ◌&&◌, cond}
use mathlib.Core.List.{List, [], ◌∷◌, ◌++◌}
use Prim.Native.Nat.{ℕ, zero, suc, ◌+◌, ◌*◌, ◌/◌, ◌%◌, ◌^◌, ◌≤◌, ◌<◌}
use native.Mathlib.Nat.{mod-lt, lt_of_le_of_lt, mul-le-mul_left, mul-lt-mul_of_pos_right, pow-le-pow_left, one-le-pow, pow-suc, mul_assoc, mul_right_comm}
use native.Mathlib.Omega.{arith}
use lib.Dec.{eqb, ltb}
use lib.ListN.{length, take, drop, take-append-drop}
use lib.Pow.{pow-add}
use borrow.Author.Tests.{le-leb, eqb-true}
use Rattle.io.specs.Digits.{hex_digit_ascii, last_digits}
use Rattle.command.specs.Numbers.{digit_of, grown}
use Rattle.double_text.specs.Decimal.{stripped, product, lowest_terms}
use Rattle.double_text.proofs.Laws.{glyph_is}

-- one digit more at the end
grown-end : (m : ℕ) (ds : List ℕ) (b : ℕ) → grown m (ds ++ (b ∷ [])) ≡ grown m ds * 10 + digit_of b
unfolding grown
grown-end m [] b = refl
grown-end m (d ∷ ds) b = grown-end (m * 10 + digit_of d) ds b

counts_as : (d : ℕ) → d < 10 → digit_of (hex_digit_ascii d) ≡ d
counts_as d h = rw (glyph_is d h, le-leb 48 (48 + d) (omega arith), le-leb (48 + d) 57 (omega arith)) (omega arith)

-- k digits denote a number that has no more
pub denoted : (k n : ℕ) → n < 10 ^ k → grown 0 (last_digits 10 k n) ≡ n
unfolding grown
denoted zero n h = omega (arith, h)
denoted (suc k) n h =
    let fewer : n / 10 < 10 ^ k = omega (arith, pow-suc 10 k, h) in
    grown-end 0 (last_digits 10 k (n / 10)) (hex_digit_ascii (n % 10))
    ∙ rw (denoted k (n / 10) fewer, counts_as (n % 10) (mod-lt n (omega arith))) (omega arith)

-- 20 digits are enough for n, and one more for each factor
enough : (n f k : ℕ) → n < 10 ^ 20 → f ≤ 10 → n * f ^ k < 10 ^ (20 + k)
enough n f k h g =
    let below : n * f ^ k ≤ n * 10 ^ k = mul-le-mul_left n (pow-le-pow_left g k) in
    let above : n * 10 ^ k < 10 ^ 20 * 10 ^ k = mul-lt-mul_of_pos_right h (one-le-pow k 10 (omega arith)) in
    rw (pow-add 10 20 k) (lt_of_le_of_lt below above)

-- zeros in front count nothing
zeros_count_nothing : (ds rest : List ℕ) → grown 0 (stripped ds ++ rest) ≡ grown 0 (ds ++ rest)
unfolding stripped grown
zeros_count_nothing [] rest = refl
zeros_count_nothing (d ∷ ds) rest = go (eqb d 0x30) (ltb 0 (length ds)) refl (zeros_count_nothing ds rest)
  where
    go : (z more : Bool) → eqb d 0x30 ≡ z → grown 0 (stripped ds ++ rest) ≡ grown 0 (ds ++ rest)
        → grown 0 (cond (z && more) (stripped ds) (d ∷ ds) ++ rest) ≡ grown (0 * 10 + digit_of d) (ds ++ rest)
    go true true e same = same ∙ ap (λ (x : ℕ). grown (0 * 10 + digit_of x) (ds ++ rest)) (sym (eqb-true d 0x30 e))
    go true false e same = refl
    go false more e same = refl

-- the text without its point, wherever that stands
pub text_exact : (n f k cut : ℕ) → n < 10 ^ 20 → f ≤ 10
    → grown 0 (stripped (take cut (product n f k)) ++ drop cut (product n f k)) ≡ n * f ^ k
unfolding product
text_exact n f k cut h g =
    zeros_count_nothing (take cut (last_digits 10 (20 + k) (n * f ^ k))) (drop cut (last_digits 10 (20 + k) (n * f ^ k)))
    ∙ rw (take-append-drop cut (last_digits 10 (20 + k) (n * f ^ k))) (denoted (20 + k) (n * f ^ k) (enough n f k h g))

-- lowest terms are of the same fraction: m / 2^q ≡ n / 2^p
pub same-fraction : (n p : ℕ) → (lowest_terms n p).numerator * 2 ^ p ≡ n * 2 ^ (lowest_terms n p).power
unfolding lowest_terms
same-fraction n zero = refl
same-fraction n (suc p) = go (eqb (n % 2) 0) refl (same-fraction (n / 2) p)
  where
    go : (even : Bool) → eqb (n % 2) 0 ≡ even → (lowest_terms (n / 2) p).numerator * 2 ^ p ≡ n / 2 * 2 ^ (lowest_terms (n / 2) p).power
        → (cond even (lowest_terms (n / 2) p) (record { numerator = n; power = suc p })).numerator * 2 ^ suc p
        ≡ n * 2 ^ (cond even (lowest_terms (n / 2) p) (record { numerator = n; power = suc p })).power
    go true e same =
        let l = lowest_terms (n / 2) p in
        let half : n / 2 * 2 ≡ n = omega (arith, eqb-true (n % 2) 0 e) in
        ap (λ (x : ℕ). l.numerator * x) (pow-suc 2 p)
        ∙ sym (mul_assoc l.numerator (2 ^ p) 2)
        ∙ ap (λ (x : ℕ). x * 2) same
        ∙ mul_right_comm (n / 2) (2 ^ l.power) 2
        ∙ ap (λ (x : ℕ). x * 2 ^ l.power) half
    go false e same = refl
