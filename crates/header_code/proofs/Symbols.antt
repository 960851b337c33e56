-- Symbols as digits of a number: sums of numbers are sums of words, and a word's number has its symbols. Assumes nothing.
use mathlib.Core.Path.{◌≡◌, refl, sym, ap, ap₂, ◌∙◌}
use mathlib.Core.Bool.{cond}
use mathlib.Core.List.{List, [], ◌∷◌, ◌++◌}
use Prim.Native.Nat.{ℕ, zero, suc, ◌+◌, ◌*◌, ◌/◌, ◌%◌, ◌^◌, ◌<◌}
use native.Mathlib.Omega.{arith}
use native.Mathlib.Nat.{one-le-pow, pow-suc, pow-succ', mod-lt, mod-eq_of_lt, mul-add-div_right, mul-add-mod_self_right, mul_assoc, div-div-eq-div-mul}
use native.Mathlib.Numerals.{add-one}
use lib.Arith.{digits_lt, digits_div}
use lib.Bits.{xor_shr, xor_mod, xor_block}
use lib.Dec.{eqb, lit<}
use lib.ListN.{get_or}
use lib.Pow.{pow-add}
use Rattle.header_code.specs.Field.{◌⊕◌}
use Rattle.header_code.specs.Code.{Word, end, symbol, add, weight}
use Rattle.header_code.specs.Symbols.{symbols_of, number_of, combined, packed}
use Rattle.header_code.proofs.Words.{length-word}

pos : (n : ℕ) → 0 < 16 ^ n
pos n = one-le-pow n 16 (lit< tt)

power-of_two : (n : ℕ) → 16 ^ n ≡ 2 ^ (4 * n)
power-of_two zero = refl
power-of_two (suc n) =
    let e : 4 * suc n ≡ 4 + 4 * n = omega arith in
    pow-succ' 16 n ∙ ap (λ (x : ℕ). 16 * x) (power-of_two n) ∙ sym (ap (λ (k : ℕ). 2 ^ k) e ∙ pow-add 2 4 (4 * n))

pub symbols-word : (n x : ℕ) → Word n (symbols_of n x)
unfolding symbols_of
symbols-word zero x = end
symbols-word (suc n) x = symbol (mod-lt (x / 16 ^ n) (lit< tt)) (symbols-word n x)

pub symbols-sum : (n x y : ℕ) → symbols_of n (x ⊕ y) ≡ add (symbols_of n x) (symbols_of n y)
unfolding symbols_of
symbols-sum zero x y = refl
symbols-sum (suc n) x y =
    ap₂ ◌∷◌ (rw (power-of_two n, xor_shr x y (4 * n)) (xor_mod (x / 2 ^ (4 * n)) (y / 2 ^ (4 * n)) 4)) (symbols-sum n x y)

-- what stands above the last n digits does not show in them
low_digits : (n k x y : ℕ) → symbols_of n (x * 16 ^ (n + k) + y) ≡ symbols_of n y
unfolding symbols_of
low_digits zero k x y = refl
low_digits (suc n) k x y = ap₂ ◌∷◌ first (rw shift (low_digits n (suc k) x y))
  where
    shift : 16 ^ (suc n + k) ≡ 16 ^ (n + suc k)
    shift = ap (λ (m : ℕ). 16 ^ m) (omega arith)

    apart : x * 16 ^ (suc n + k) ≡ x * 16 ^ k * 16 * 16 ^ n
    apart =
        let e : suc n + k ≡ k + 1 + n = omega arith in
        rw (e, pow-add 16 (k + 1) n, pow-add 16 k 1) (sym (mul_assoc x (16 ^ k * 16) (16 ^ n)) ∙ ap (λ (m : ℕ). m * 16 ^ n) (sym (mul_assoc x (16 ^ k) 16)))

    first : (x * 16 ^ (suc n + k) + y) / 16 ^ n % 16 ≡ y / 16 ^ n % 16
    first = rw (apart, mul-add-div_right (pos n) (x * 16 ^ k * 16) y) (mul-add-mod_self_right (x * 16 ^ k) 16 (y / 16 ^ n))

pub number_lt : {n : ℕ} {w : List ℕ} → Word n w → number_of w < 16 ^ n
number_lt end = lit< tt
number_lt (symbol {n = n} h r) = rw (length-word r, pow-succ' 16 n) (digits_lt h (number_lt r))

pub number-symbols : {n : ℕ} {w : List ℕ} → Word n w → symbols_of n (number_of w) ≡ w
unfolding symbols_of
number-symbols end = refl
number-symbols (symbol {n = n} {c = c} {w = w} h r) =
    let first : (c * 16 ^ n + number_of w) / 16 ^ n % 16 ≡ c = rw (digits_div c (number_lt r)) (mod-eq_of_lt h) in
    let same : c * 16 ^ (n + 0) + number_of w ≡ c * 16 ^ n + number_of w = ap (λ (m : ℕ). c * 16 ^ m + number_of w) (omega arith) in
    rw (length-word r) (ap₂ ◌∷◌ first (ap (symbols_of n) (sym same) ∙ low_digits n 0 c (number_of w) ∙ number-symbols r))

-- ---- a symbol at a time, as the code goes: rest is what stands above the last n symbols of x
pub next-rest : (n x rest : ℕ) → rest ≡ x / 16 ^ n → rest / 16 ≡ x / 16 ^ (n + 1)
next-rest n x rest e = rw (e, add-one n, pow-suc 16 n) (div-div-eq-div-mul x (16 ^ n) 16)

pub next-symbol : (n x rest : ℕ) → rest ≡ x / 16 ^ n → symbols_of (n + 1) x ≡ rest % 16 ∷ symbols_of n x
unfolding symbols_of
next-symbol n x rest e = rw (e, add-one n)

pub combined-next : (table : List ℕ) (n x rest : ℕ) → rest ≡ x / 16 ^ n
    → get_or table (n * 16 + rest % 16) 0 ⊕ combined table (symbols_of n x) ≡ combined table (symbols_of (n + 1) x)
combined-next table n x rest e =
    sym (ap (combined table) (next-symbol n x rest e)
    ∙ ap (λ (k : ℕ). get_or table (k * 16 + rest % 16) 0 ⊕ combined table (symbols_of n x)) (length-word (symbols-word n x)))

pub weight-next : (n x rest : ℕ) → rest ≡ x / 16 ^ n → weight (symbols_of n x) + cond (eqb (rest % 16) 0) 0 1 ≡ weight (symbols_of (n + 1) x)
weight-next n x rest e = omega (arith, ap weight (next-symbol n x rest e))

-- a byte more at the end is two symbols more
pub symbols-byte : (n x b : ℕ) → b < 256 → symbols_of (suc (suc n)) (x * 256 + b) ≡ symbols_of n x ++ (b / 16 ∷ b % 16 ∷ [])
unfolding symbols_of
symbols-byte zero x b h = ap₂ ◌∷◌ (omega arith) (ap₂ ◌∷◌ (omega arith) refl)
symbols-byte (suc n) x b h =
    let two : 16 ^ suc (suc n) ≡ 256 * 16 ^ n = rw (pow-succ' 16 (suc n), pow-succ' 16 n) (sym (mul_assoc 16 16 (16 ^ n))) in
    let whole : (x * 256 + b) / 256 ≡ x = omega arith in
    ap₂ ◌∷◌ (rw (two, ← div-div-eq-div-mul (x * 256 + b) 256 (16 ^ n), whole)) (symbols-byte n x b h)

-- ---- four symbols in one number
pub packed-sum : (p q r s p' q' r' s' : ℕ) → q < 16 → r < 16 → s < 16 → q' < 16 → r' < 16 → s' < 16
    → packed p q r s ⊕ packed p' q' r' s' ≡ packed (p ⊕ p') (q ⊕ q') (r ⊕ r') (s ⊕ s')
packed-sum p q r s p' q' r' s' hq hr hs hq' hr' hs' =
    xor_block 4 ((p * 16 + q) * 16 + r) ((p' * 16 + q') * 16 + r') s s' hs hs'
    ∙ ap (λ (x : ℕ). x * 16 + (s ⊕ s')) (xor_block 4 (p * 16 + q) (p' * 16 + q') r r' hr hr'
    ∙ ap (λ (x : ℕ). x * 16 + (r ⊕ r')) (xor_block 4 p p' q q' hq hq'))
