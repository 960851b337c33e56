-- Digits that are spelled and multiplied from the last one on, zeros in front, a decimal point, and lowest terms. Assumes nothing.
use mathlib.Core.Path.{◌≡◌, refl, sym, ap, ◌∙◌}
use mathlib.Core.Bool.{Bool, true, false, ◌&&◌, cond}
use mathlib.Core.List.{List, [], ◌∷◌, ◌++◌, append-nil}
use Prim.Native.Nat.{ℕ, zero, suc, ◌+◌, ◌-◌, ◌*◌, ◌/◌, ◌%◌, ◌^◌, ◌≤◌, ◌<◌}
use native.Mathlib.Nat.{le_refl, le_of_suc-le-suc, not-suc-le-zero, mod-lt, add_assoc, add-mul, mul_assoc, mul_right_comm}
use native.Mathlib.Nat.{mul-add-div_right, mul-add-mod_self_right, pow-zero, pow-suc}
use native.Mathlib.Numerals.{add-one}
use native.Mathlib.Omega.{arith}
use lib.Dec.{eqb}
use lib.Ieee.{Float, nan, inf, fin, binary64, to_bits, is_nan}
use lib.ListN.{length, take, drop, set, get_or, length-append, length-take, length-drop, drop_of_length-le}
use lib.Seq.{take-suc, take_at, drop_at, take-set-le, length-take-le, append_snoc, drop-cons, take_all, drop-length}
use borrow.Author.Tests.{lt-ltb, eq-eqb, ne_eqb}
use Rattle.io.specs.Digits.{hex_digit_ascii, last_digits}
use Rattle.command.specs.Text.{Adds, ascii}
use Rattle.command.proofs.TextLaws.{adds_append}
use Rattle.double_text.specs.Decimal.{stripped, behind_point, lowest_terms, LeadingZeros, Multiplied, pointed, bits_text, double_text}

-- ---- digits

pub length_digits : (k n : ℕ) → length (last_digits 10 k n) ≡ k
length_digits zero n = refl
length_digits (suc k) n =
    let last = hex_digit_ascii (n % 10) ∷ [] in
    omega (arith, length-append (last_digits 10 k (n / 10)) last, length_digits k (n / 10))

pub glyph_is : (d : ℕ) → d < 10 → hex_digit_ascii d ≡ 48 + d
glyph_is d h = rw (lt-ltb d 10 h)

-- what is stored at j stands in front of what follows
stored : (t : List ℕ) (j g : ℕ) → j < length t → drop j (set t j g) ≡ g ∷ drop (suc j) t
stored [] j g h = absurd (not-suc-le-zero h)
stored (x ∷ xs) zero g h = refl
stored (x ∷ xs) (suc j) g h = stored xs j g (le_of_suc-le-suc h)

-- a digit moves from those that are still to be written to those that are
moved : (j number g : ℕ) (out : List ℕ) → j < length out → g ≡ hex_digit_ascii (number % 10)
    → last_digits 10 j (number / 10) ++ drop j (set out j g) ≡ last_digits 10 (suc j) number ++ drop (suc j) out
moved j number g out h e =
    let todo = last_digits 10 j (number / 10) in
    ap (λ (l : List ℕ). todo ++ l) (stored out j g h)
    ∙ ap (λ (x : ℕ). todo ++ x ∷ drop (suc j) out) e
    ∙ sym (append_snoc todo (hex_digit_ascii (number % 10)) (drop (suc j) out))

-- ---- the digits of a number, spelled down to place i

abbrev pub Spelled : ℕ → ℕ → ℕ → ℕ → List ℕ → Type 0
Spelled n size i rest out = last_digits 10 i rest ++ drop i out ≡ last_digits 10 size n

pub none-spelled : (n : ℕ) (out : List ℕ) → Spelled n (length out) (length out) n out
none-spelled n out = rw (drop-length out, append-nil)

pub one-spelled : (n size i rest : ℕ) (out : List ℕ) → 0 < i → i ≤ length out → Spelled n size i rest out
    → Spelled n size (i - 1) (rest / 10) (set out (i - 1) (48 + rest % 10))
one-spelled n size zero rest out some h s = absurd (not-suc-le-zero some)
one-spelled n size (suc j) rest out some h s =
    let here : suc j - 1 ≡ j = omega arith in
    let digit = sym (glyph_is (rest % 10) (mod-lt rest (omega arith))) in
    rw here (moved j rest (48 + rest % 10) out h digit ∙ s)

-- ---- the digits of m, multiplied by f down to place i: what is left of m stands in front, and a number is carried

pub record Multiplying (m f size i carry : ℕ) (out : List ℕ) : Type 0 where
  pub rest : ℕ
  pub front_is : take i out ≡ last_digits 10 i rest
  pub whole_is : last_digits 10 i (rest * f + carry) ++ drop i out ≡ last_digits 10 size (m * f)

pub none-multiplied : (m f : ℕ) (out : List ℕ) → out ≡ last_digits 10 (length out) m → Multiplying m f (length out) (length out) 0 out
none-multiplied m f out e =
    let plain : m * f + 0 ≡ m * f = omega arith in
    record {
      rest = m;
      front_is = take_all (length out) out (le_refl (length out)) ∙ e;
      whole_is = rw (plain, drop-length out, append-nil);
    }

module _ (m f size j carry : ℕ) (out : List ℕ) (h : j < length out) (s : Multiplying m f size (suc j) carry out) where
  abbrev q : ℕ
  q = s.rest

  abbrev d : ℕ
  d = q % 10

  split : take j out ++ (get_or out j 0 ∷ []) ≡ last_digits 10 j (q / 10) ++ (hex_digit_ascii d ∷ [])
  split = sym (take-suc out j 0 h) ∙ s.front_is

  front : take j out ≡ last_digits 10 j (q / 10)
  front =
      sym (take_at (take j out) (get_or out j 0 ∷ []) j (length-take-le j out (omega arith)))
      ∙ ap (λ (l : List ℕ). take j l) split
      ∙ take_at (last_digits 10 j (q / 10)) (hex_digit_ascii d ∷ []) j (length_digits j (q / 10))

  last : get_or out j 0 ≡ hex_digit_ascii d
  last =
      let same : get_or out j 0 ∷ [] ≡ hex_digit_ascii d ∷ []
      = sym (drop_at (take j out) (get_or out j 0 ∷ []) j (length-take-le j out (omega arith)))
      ∙ ap (λ (l : List ℕ). drop j l) split
      ∙ drop_at (last_digits 10 j (q / 10)) (hex_digit_ascii d ∷ []) j (length_digits j (q / 10)) in
      cc

  digit : get_or out j 0 % 16 ≡ d
  digit = omega (arith, last ∙ glyph_is d (mod-lt q (omega arith)), mod-lt q {m = 10} (omega arith))

  -- q × f and what is carried, as tens and the product of its last digit
  tens : q * f + carry ≡ q / 10 * f * 10 + (d * f + carry)
  tens =
      let parts : q ≡ q / 10 * 10 + d = omega arith in
      ap (λ (x : ℕ). x * f + carry) parts
      ∙ ap (λ (x : ℕ). x + carry) (add-mul (q / 10 * 10) d f)
      ∙ ap (λ (x : ℕ). x + d * f + carry) (mul_right_comm (q / 10) 10 f)
      ∙ add_assoc (q / 10 * f * 10) (d * f) carry

  pub one-multiplied : Multiplying m f size j ((get_or out j 0 % 16 * f + carry) / 10) (set out j (48 + (get_or out j 0 % 16 * f + carry) % 10))
  one-multiplied =
      let p = d * f + carry in
      let quotient : (q * f + carry) / 10 ≡ q / 10 * f + p / 10 = ap (λ (x : ℕ). x / 10) tens ∙ mul-add-div_right (omega arith) (q / 10 * f) p in
      let remainder : (q * f + carry) % 10 ≡ p % 10 = ap (λ (x : ℕ). x % 10) tens ∙ mul-add-mod_self_right (q / 10 * f) 10 p in
      let g : 48 + p % 10 ≡ hex_digit_ascii ((q * f + carry) % 10) = sym (rw remainder (glyph_is (p % 10) (mod-lt p (omega arith)))) in
      rw digit
      (record {
        rest = q / 10;
        front_is = take-set-le j out j (48 + p % 10) (le_refl j) ∙ front;
        whole_is = rw (sym quotient) (moved j (q * f + carry) (48 + p % 10) out h g ∙ s.whole_is);
      })

pub one_more-multiplied : (m f size i carry : ℕ) (out : List ℕ) → 0 < i → i ≤ length out → Multiplying m f size i carry out
    → Multiplying m f size (i - 1) ((get_or out (i - 1) 0 % 16 * f + carry) / 10) (set out (i - 1) (48 + (get_or out (i - 1) 0 % 16 * f + carry) % 10))
one_more-multiplied m f size zero carry out some h s = absurd (not-suc-le-zero some)
one_more-multiplied m f size (suc j) carry out some h s =
    let here : suc j - 1 ≡ j = omega arith in
    rw here (one-multiplied m f size j carry out h s)

-- the digits of n × f^i, once more
pub power-grows : (n f i : ℕ) → n * f ^ i * f ≡ n * f ^ (i + 1)
power-grows n f i = mul_assoc n (f ^ i) f ∙ ap (λ (x : ℕ). n * x) (sym (rw add-one (pow-suc f i)))

-- digits are as many as they are
pub as_many : (s : List ℕ) (size m : ℕ) → s ≡ last_digits 10 size m → length s ≡ size
as_many s size m e = ap (λ (l : List ℕ). length l) e ∙ length_digits size m

pub not_grown : (n f size : ℕ) (s : List ℕ) → s ≡ last_digits 10 size n → s ≡ last_digits 10 (length s) (n * f ^ 0)
not_grown n f size s e =
    let one : n * f ^ 0 ≡ n = rw pow-zero (omega arith) in
    rw (as_many s size n e, one) e

pub grown : (n f size i : ℕ) (old new : List ℕ) → length old ≡ size → old ≡ last_digits 10 size (n * f ^ i) → Multiplied old f new
    → new ≡ last_digits 10 size (n * f ^ (i + 1))
grown n f size i old new e s product =
    let same : old ≡ last_digits 10 (length old) (n * f ^ i) = rw e s in
    rw (sym e, sym (power-grows n f i)) (product (n * f ^ i) same)

-- digits in the front of an array
module _ (a e : List ℕ) (size m : ℕ) (room : size ≤ length a) (s : e ≡ last_digits 10 (length (take size a)) m) where
  size_is : length e ≡ size
  size_is = as_many e (length (take size a)) m s ∙ length-take-le size a room

  pub fits-array : size ≤ length (e ++ drop size a)
  fits-array = omega (arith, length-append e (drop size a), size_is)

  pub is_front : take size (e ++ drop size a) ≡ last_digits 10 size m
  is_front = take_at e (drop size a) size size_is ∙ rw (length-take-le size a room) at s

  pub front_length : size ≡ length (take size (e ++ drop size a))
  front_length = sym (ap (λ (l : List ℕ). length l) (take_at e (drop size a) size size_is) ∙ size_is)

-- ---- zeros in front

short : (ds : List ℕ) → length ds ≤ 1 → stripped ds ≡ ds
unfolding stripped
short [] h = refl
short (d ∷ []) h = go (eqb d 0x30)
  where
    go : (b : Bool) → cond (b && false) [] (d ∷ []) ≡ d ∷ []
    go true = refl
    go false = refl
short (d ∷ e ∷ ds) h = absurd (omega arith)

-- the digits from place r up to the cut
abbrev pub from : List ℕ → ℕ → ℕ → List ℕ
from all cut r = take (cut - r) (drop r all)

module _ (all : List ℕ) (cut r : ℕ) (inside : cut ≤ length all) (more : r + 1 < cut) where
  begins : from all cut r ≡ get_or all r 0 ∷ from all cut (r + 1)
  begins =
      let one : cut - r ≡ suc (cut - (r + 1)) = omega arith in
      rw (one, drop-cons all r 0 (omega arith), add-one)

  long : 0 < length (from all cut (r + 1))
  long = omega (arith, length-take-le (cut - (r + 1)) (drop (r + 1) all) (omega (arith, length-drop (r + 1) all)))

  pub zero-passed : get_or all r 0 ≡ 0x30 → stripped (from all cut r) ≡ stripped (from all cut (r + 1))
  unfolding stripped
  zero-passed e = rw (begins, eq-eqb (get_or all r 0) 0x30 e, lt-ltb 0 (length (from all cut (r + 1))) long)

  pub digit-stays : (get_or all r 0 ≡ 0x30 → ⊥) → stripped (from all cut r) ≡ from all cut r
  unfolding stripped
  digit-stays e = rw (begins, ne_eqb (get_or all r 0) 0x30 e)

pub last_stays : (all : List ℕ) (cut r : ℕ) → cut ≤ r + 1 → stripped (from all cut r) ≡ from all cut r
last_stays all cut r h = short (from all cut r) (omega (arith, length-take (cut - r) (drop r all)))

-- ---- a decimal point

pub point_put : (all : List ℕ) (cut : ℕ) → cut < length all → behind_point (drop cut all) ≡ (0x2e ∷ []) ++ drop cut all
point_put all cut h = rw (drop-cons all cut 0 h)

pub no_point : (all : List ℕ) (cut : ℕ) → length all ≤ cut → behind_point (drop cut all) ≡ []
no_point all cut h = rw (drop_of_length-le all {i = cut} h)

module _ (all : List ℕ) (cut r : ℕ) (zeros : LeadingZeros all cut r) where
  pub pointed-digits : {old one two new : List ℕ} {a b c e : ℕ} → cut < length all → Adds old a (from all cut r) one b → Adds one b (0x2e ∷ []) two c
      → Adds two c (take (length all - cut) (drop cut all)) new e → Adds old a (pointed cut all) new e
  unfolding pointed
  pointed-digits h p q t =
      let rest = take_all (length all - cut) (drop cut all) (omega (arith, length-drop cut all)) in
      rw (point_put all cut h, ← zeros.rest-is) (adds_append p (adds_append q (rw rest at t)))

  pub plain_digits : {old new : List ℕ} {a b : ℕ} → length all ≤ cut → Adds old a (from all cut r) new b → Adds old a (pointed cut all) new b
  unfolding pointed
  plain_digits h p = rw (no_point all cut h, append-nil, ← zeros.rest-is) p

-- ---- lowest terms

pub halved : (n p : ℕ) → 0 < p → n % 2 ≡ 0 → lowest_terms n p ≡ lowest_terms (n / 2) (p - 1)
unfolding lowest_terms
halved n zero some e = absurd (not-suc-le-zero some)
halved n (suc p) some e = let one : suc p - 1 ≡ p = omega arith in rw (one, eq-eqb (n % 2) 0 e)

pub lowest : (n p : ℕ) → 0 < p → (n % 2 ≡ 0 → ⊥) → lowest_terms n p ≡ record { numerator = n; power = p }
unfolding lowest_terms
lowest n zero some e = absurd (not-suc-le-zero some)
lowest n (suc p) some e = rw (ne_eqb (n % 2) 0 e)

pub whole : (n p : ℕ) → p ≤ 0 → lowest_terms n p ≡ record { numerator = n; power = p }
unfolding lowest_terms
whole n zero h = refl
whole n (suc p) h = absurd (not-suc-le-zero h)

-- ---- doubles

pub nan_text : (v : Float) → true ≡ is_nan v → ascii "nan" ≡ double_text v
unfolding is_nan
nan_text nan h = refl
nan_text (inf s) h = cc
nan_text (fin s m e) h = cc

pub number-text : (v : Float) → false ≡ is_nan v → bits_text (to_bits binary64 v) ≡ double_text v
unfolding is_nan
number-text nan h = cc
number-text (inf s) h = refl
number-text (fin s m e) h = refl
