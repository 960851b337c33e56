-- Laws of numbers in bytes, over any width: reading and writing undo one another, bytes of one length that are one number are the same, and a
-- number with bytes more at its end. Assumes nothing.
use mathlib.Core.Path.{◌≡◌, refl, sym, ap, ◌∙◌, subst}
use mathlib.Core.List.{List, [], ◌∷◌, ◌++◌}
use Prim.Native.Nat.{ℕ, zero, suc, ◌+◌, ◌-◌, ◌*◌, ◌/◌, ◌%◌, ◌^◌, ◌≤◌, ◌<◌}
use native.Mathlib.Omega.{arith}
use native.Mathlib.Nat.{one-le-pow, mod-one, mod-lt, mod-eq_of_lt, pow-suc, pow-succ', pow-le-pow_right, div-div-eq-div-mul, mul_assoc, add-mul, add_assoc}
use native.Mathlib.Numerals.{add-one}
use lib.Arith.{digits_lt, digits_div, digits_mod, mod-mul}
use lib.Dec.{T, ltb, lt→ltb, lit<}
use lib.Ieee.Fits.{and_i}
use lib.ListN.{length, get_or, take, drop, set, length-append, length-set}
use lib.Pow.{are_bytes, pow-add}
use lib.Seq.{take-suc, drop-length, drop-cons, get_or-set_same, drop-set-lt, get_or-drop}
use Rattle.base.specs.Numbers.{big_endian, bytes_of}
use Rattle.base.proofs.Lists.{byte_at_lem}

-- each element is a byte
abbrev pub Bytes : List ℕ → Type 0
Bytes w = (k : ℕ) → get_or w k 0 < 256

pub are_bytes_lem : (w : List ℕ) → Bytes w → T (are_bytes w)
are_bytes_lem [] h = tt
are_bytes_lem (b ∷ w) h = and_i (ltb b 256) (are_bytes w) (lt→ltb b 256 (h 0)) (are_bytes_lem w (λ k. h (suc k)))

pub to-bytes : (w : List ℕ) → T (are_bytes w) → Bytes w
to-bytes w h k = byte_at_lem w k h

pos : (n : ℕ) → 0 < 256 ^ n
pos n = one-le-pow n 256 (lit< tt)

-- ---- bytes joined
pub big_endian-append : (u v : List ℕ) → big_endian (u ++ v) ≡ big_endian u * 256 ^ length v + big_endian v
unfolding big_endian
big_endian-append [] v = omega arith
big_endian-append (b ∷ u) v =
    rw (length-append u v, pow-add 256 (length u) (length v), big_endian-append u v, add-mul, mul_assoc b (256 ^ length u) (256 ^ length v), add_assoc)

-- one byte more at the end, and at the front
pub big_endian-end : (w : List ℕ) (b : ℕ) → big_endian (w ++ (b ∷ [])) ≡ big_endian w * 256 + b
unfolding big_endian
big_endian-end w b = big_endian-append w (b ∷ []) ∙ omega arith

pub big_endian-front : (b : ℕ) (w : List ℕ) → big_endian (b ∷ w) ≡ b * 256 ^ length w + big_endian w
unfolding big_endian
big_endian-front b w = refl

-- ---- bytes as a number
pub big_endian-below : (w : List ℕ) → Bytes w → big_endian w < 256 ^ length w
unfolding big_endian
big_endian-below [] h = lit< tt
big_endian-below (b ∷ w) h = rw (pow-succ' 256 (length w)) (digits_lt (h 0) (big_endian-below w (λ k. h (suc k))))

-- so many bytes fit a number of 64 bits
pub big_endian-fits : (w : List ℕ) → length w ≤ 8 → Bytes w → big_endian w < 2 ^ 64
big_endian-fits w short h =
    let p : 256 ^ length w ≤ 256 ^ 8 = pow-le-pow_right (lit< tt) {i = length w} {j = 8} short in
    omega (arith, big_endian-below w h)

pub same_bytes : (u v : List ℕ) → length u ≡ length v → Bytes u → Bytes v → big_endian u ≡ big_endian v → u ≡ v
unfolding big_endian
same_bytes [] [] l hu hv e = refl
same_bytes [] (y ∷ v) l hu hv e = absurd (omega arith)
same_bytes (x ∷ u) [] l hu hv e = absurd (omega arith)
same_bytes (x ∷ u) (y ∷ v) l hu hv e =
    let same : length u ≡ length v = omega arith in
    let m = 256 ^ length u in
    let lu : big_endian u < m = big_endian-below u (λ k. hu (suc k)) in
    let lv : big_endian v < m = subst (λ (k : ℕ). big_endian v < 256 ^ k) (sym same) (big_endian-below v (λ k. hv (suc k))) in
    let f : x * m + big_endian u ≡ y * m + big_endian v = e ∙ ap (λ (k : ℕ). y * 256 ^ k + big_endian v) (sym same) in
    let first : x ≡ y = sym (digits_div x lu) ∙ ap (λ (n : ℕ). n / m) f ∙ digits_div y lv in
    let rest : big_endian u ≡ big_endian v = sym (digits_mod x lu) ∙ ap (λ (n : ℕ). n % m) f ∙ digits_mod y lv in
    rw (first, same_bytes u v same (λ k. hu (suc k)) (λ k. hv (suc k)) rest)

-- ---- a number as bytes
pub length-bytes_of : (n x : ℕ) → length (bytes_of n x) ≡ n
length-bytes_of zero x = refl
length-bytes_of (suc n) x = ap suc (length-bytes_of n x)

pub bytes_of_lem : (n x : ℕ) → Bytes (bytes_of n x)
bytes_of_lem zero x k = lit< tt
bytes_of_lem (suc n) x zero = mod-lt (x / 256 ^ n) (lit< tt)
bytes_of_lem (suc n) x (suc k) = bytes_of_lem n x k

-- the last byte apart
pub bytes_of-end : (n x : ℕ) → bytes_of (suc n) x ≡ bytes_of n (x / 256) ++ (x % 256 ∷ [])
bytes_of-end zero x = ap (λ (y : ℕ). y % 256 ∷ []) (omega arith)
bytes_of-end (suc n) x =
    let first : x / 256 ^ suc n ≡ x / 256 / 256 ^ n = rw (pow-succ' 256 n) (sym (div-div-eq-div-mul x 256 (256 ^ n))) in
    rw (first, bytes_of-end n x)

-- ---- one undoes the other
pub read-cut : (n x : ℕ) → big_endian (bytes_of n x) ≡ x % 256 ^ n
unfolding big_endian
read-cut zero x = sym (mod-one x)
read-cut (suc n) x =
    rw (length-bytes_of n x, read-cut n x) (sym (ap (λ (k : ℕ). x % k) (pow-succ' 256 n) ∙ mod-mul x (lit< tt) (pos n)))

pub read_back : (n x : ℕ) → x < 256 ^ n → big_endian (bytes_of n x) ≡ x
read_back n x h = read-cut n x ∙ mod-eq_of_lt h

pub written_back : (w : List ℕ) → Bytes w → bytes_of (length w) (big_endian w) ≡ w
written_back w h =
    let x = big_endian w in
    same_bytes (bytes_of (length w) x) w (length-bytes_of (length w) x) (bytes_of_lem (length w) x) h (read_back (length w) x (big_endian-below w h))

-- ---- a byte at a time, as the code goes

-- a number of 64 bits with one byte more at its end
pub read_step : (w : List ℕ) (i n b : ℕ) → i < length w → b ≡ get_or w i 0 → b < 256 → n ≡ big_endian (take i w) % 2 ^ 64
    → n % 2 ^ 56 * 256 + b ≡ big_endian (take (i + 1) w) % 2 ^ 64
read_step w i n b h e B so_far =
    let taken : take (i + 1) w ≡ take i w ++ (b ∷ []) = rw (add-one, take-suc w i 0 h, e) in
    rw (taken, big_endian-end (take i w) b) (shifted (big_endian (take i w)) n so_far)
  where
    shifted : (x n : ℕ) → n ≡ x % 2 ^ 64 → n % 2 ^ 56 * 256 + b ≡ (x * 256 + b) % 2 ^ 64
    shifted x n f = omega arith

-- from place i on the bytes are the last of x, and what is left of it is yet to be written
pub record Stored (x : ℕ) (out : List ℕ) (i rest : ℕ) : Type 0 where
  pub inside : i ≤ length out
  pub left : rest ≡ x / 256 ^ (length out - i)
  pub stands : drop i out ≡ bytes_of (length out - i) x

pub stored-none : (x : ℕ) (out : List ℕ) → Stored x out (length out) x
stored-none x out =
    let none : length out - length out ≡ 0 = omega arith in
    record { inside = omega arith; left = rw none (omega arith); stands = rw none (drop-length out) }

pub stored_more : (x : ℕ) (out : List ℕ) (i j rest : ℕ) → i ≡ j + 1 → Stored x out i rest → Stored x (set out j (rest % 256)) j (rest / 256)
stored_more x out i j rest e s =
    let b = rest % 256 in
    let same : length (set out j b) ≡ length out = length-set out j b in
    let more : length out - j ≡ suc (length out - i) = omega arith in
    let next : suc j ≡ i = omega arith in
    record {
      inside = omega arith;
      left = rw (same, more, pow-suc 256 (length out - i), ← div-div-eq-div-mul x (256 ^ (length out - i)) 256, ← s.left);
      stands =
          rw (same, more, ← s.left, ← s.stands)
          (drop-cons (set out j b) j 0 (omega arith)
          ∙ rw (get_or-set_same out j b 0 (omega arith), drop-set-lt (suc j) out j b (omega arith), next));
    }

pub stored-all : (x : ℕ) (out : List ℕ) (i rest : ℕ) → i ≡ 0 → Stored x out i rest → out ≡ bytes_of (length out) x
stored-all x out i rest e s =
    let all : length out - i ≡ length out = omega arith in
    sym (ap (λ (k : ℕ). drop k out) e) ∙ s.stands ∙ ap (λ (k : ℕ). bytes_of k x) all

-- ---- parts of bytes
pub take-bytes : (n : ℕ) (w : List ℕ) → Bytes w → Bytes (take n w)
take-bytes zero w h k = lit< tt
take-bytes (suc n) [] h k = lit< tt
take-bytes (suc n) (b ∷ w) h zero = h 0
take-bytes (suc n) (b ∷ w) h (suc k) = take-bytes n w (λ j. h (suc j)) k

pub drop-bytes : (n : ℕ) (w : List ℕ) → Bytes w → Bytes (drop n w)
drop-bytes n w h k = rw get_or-drop (h (n + k))

-- n bytes of which there are so many
pub short-take : (n : ℕ) (w : List ℕ) → length (take n w) ≤ n
short-take zero w = omega arith
short-take (suc n) [] = omega arith
short-take (suc n) (b ∷ w) = let l = short-take n w in omega arith
