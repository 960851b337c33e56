-- How a number grows digit by digit. Assumes nothing.
use Rattle.std.proofs.Common.{◌≡◌, refl, sym, Bool, true, false, cond, ◌&&◌, List, ℕ, suc, ◌+◌, ◌-◌, ◌*◌, ◌^◌, ◌≤◌, ◌<◌}
use Rattle.std.proofs.Common.{Some, None, length, get_or, drop, drop-cons, add-one, arith}
use mathlib.Core.Bool.{and-false}
use native.Mathlib.Nat.{pow-le-pow_right, pow-suc}
use lib.Dec.{leb}
use lib.ListN.{drop_of_length-le}
use borrow.Author.Tests.{leb-true, lt-ltb, le-leb}
use Rattle.command.specs.Numbers.{is_digit, digit_of, digit_in, all_digits, grown, number_in}

-- i digits are read, and make n
pub record Read (text : List ℕ) (n i : ℕ) : Type 0 where
  pub within : i ≤ length text
  pub digits_same : all_digits (drop i text) ≡ all_digits text
  pub value_same : grown n (drop i text) ≡ grown 0 text
  pub small : n < 10 ^ i

-- a digit counts 9 at most
digit-small : (b : ℕ) → digit_of b ≤ 9
digit-small b = go (leb 48 b) (leb b 57) refl
  where
    go : (x y : Bool) → leb b 57 ≡ y → cond (x && y) (b - 48) 0 ≤ 9
    go true true e = let l = leb-true b 57 e in omega arith
    go true false e = omega arith
    go false y e = omega arith

digit_told : (b d : ℕ) → Some d ≡ digit_in b → (is_digit b ≡ true) × (d ≡ digit_of b)
digit_told b d = go (is_digit b) refl
  where
    go : (t : Bool) → is_digit b ≡ t → Some d ≡ cond t (Some (digit_of b)) None → (is_digit b ≡ true) × (d ≡ digit_of b)
    go true e h = (e, cc)
    go false e h = cc

pub told-small : (b : ℕ) {d : ℕ} → Some d ≡ digit_in b → d ≤ 9
told-small b {d} h = omega (arith, (digit_told b d h).1, digit-small b)

no_digit : (b : ℕ) → None ≡ digit_in b → is_digit b ≡ false
no_digit b = go (is_digit b) refl
  where
    go : (t : Bool) → is_digit b ≡ t → None ≡ cond t (Some (digit_of b)) None → is_digit b ≡ false
    go true e h = cc
    go false e h = e

module _ {text : List ℕ} {n i : ℕ} (r : Read text n i) (h : i < length text) where
  pub room : length text ≤ 19 → n < 10 ^ 18
  room l =
      let large : 10 ^ i ≤ 10 ^ 18 = pow-le-pow_right {n = 10} (omega arith) {i = i} {j = 18} (omega arith) in
      omega (arith, r.small)

  pub one_more : {d : ℕ} → Some d ≡ digit_in (get_or text i 0) → Read text (n * 10 + d) (i + 1)
  unfolding all_digits grown
  one_more {d} t =
      let told = digit_told (get_or text i 0) d t in
      let here = drop-cons text i 0 h in
      let power : 10 ^ suc i ≡ 10 ^ i * 10 = pow-suc 10 i in
      rw told.1
      record {
        within = omega arith;
        digits_same = rw add-one (rw (here, told.0) at r.digits_same);
        value_same = rw add-one (rw here at r.value_same);
        small = rw add-one (omega (arith, r.small, digit-small (get_or text i 0), power));
      }

  pub other_byte : None ≡ digit_in (get_or text i 0) → None ≡ number_in text
  unfolding all_digits
  other_byte t =
      let here = drop-cons text i 0 h in
      let none : all_digits text ≡ false = sym (rw (here, no_digit (get_or text i 0) t) at r.digits_same) in
      sym (rw (none, and-false))

pub whole-number : {text : List ℕ} {n i : ℕ} → Read text n i → length text ≤ i → (length text ≡ 0 → ⊥) → length text ≤ 19 → Some n ≡ number_in text
unfolding all_digits grown
whole-number {text} {n} {i} r end some short =
    let none = drop_of_length-le text {i = i} end in
    let digits : all_digits text ≡ true = sym (rw none at r.digits_same) in
    let value : n ≡ grown 0 text = rw none at r.value_same in
    rw (lt-ltb 0 (length text) (omega arith), le-leb (length text) 19 short, digits) (rw value)
