-- What is put behind a text, byte by byte and slice by slice, and the digits of a number. Assumes nothing.
use mathlib.Core.Path.{◌≡◌, refl, sym, ap, ◌∙◌}
use mathlib.Core.Bool.{Bool, true, false}
use mathlib.Core.List.{List, [], ◌∷◌, ◌++◌, append-nil, append_assoc}
use Prim.Native.Nat.{ℕ, min, zero, suc, ◌+◌, ◌-◌, ◌^◌, ◌≤◌, ◌<◌}
use native.Mathlib.Nat.{pow-le-pow_right}
use native.Mathlib.Numerals.{add-one}
use native.Mathlib.Omega.{arith}
use lib.Dec.{leb, ltb}
use lib.ListN.{length, take, set, length-append, length-set, length-take}
use lib.Seq.{take_all, take_at, take-length, take-suc-set, take-append-add, length-take-le}
use Rattle.std.proofs.lemmas.List.{take_min}
use Rattle.std.proofs.lemmas.Slice.{take-put_mid}
use borrow.Rule.Slice.PartMut.{mid_of, put_mid, same_len_mid}
use borrow.Author.Tests.{leb-true, leb-false, lt-ltb, le-ltb}
use Rattle.base.specs.Ranges.{lowest}
use Rattle.base.proofs.Ranges.{stopped}
use Rattle.io.specs.Counts.{IsPrefixLen}
use Rattle.io.specs.Digits.{last_digits, IsDigitCount}
use Rattle.command.specs.Text.{Adds, places, decimal}

-- what is cut off once stays cut off
cut_once : (n : ℕ) (xs ys : List ℕ) → take n (take n xs ++ ys) ≡ take n (xs ++ ys)
cut_once zero xs ys = refl
cut_once (suc n) [] ys = refl
cut_once (suc n) (x ∷ xs) ys = ap (λ (l : List ℕ). x ∷ l) (cut_once n xs ys)

pub counted : (xs : List ℕ) (n : ℕ) → n ≤ length xs → IsPrefixLen n xs
counted xs n h = (h, sym (length-take-le n xs h))

module _ (old : List ℕ) (at : ℕ) where
  -- a text that ends within the buffer, and one that fills it
  pub adds_within : at ≤ length old → Adds old at [] old at
  adds_within h = record {
    text_is = sym (rw append-nil (take_all (length old) (take at old) (omega (arith, length-take-le at old h))));
    size_is = refl;
    counts = counted old at h;
  }

  pub adds_full : (bytes : List ℕ) → length old ≤ at → Adds old at bytes old (length old)
  adds_full bytes h = record {
    text_is = take-length old ∙ rw (take_all at old h) (sym (take_at old bytes (length old) refl));
    size_is = refl;
    counts = counted old (length old) (omega arith);
  }

  pub adds_byte : (b : ℕ) → at < length old → Adds old at (b ∷ []) (set old at b) (at + 1)
  adds_byte b h =
      let front = length-take-le at old (omega arith) in
      let fits : length (take at old ++ (b ∷ [])) ≤ length old = omega (arith, length-append (take at old) (b ∷ []), front) in
      record {
        text_is = rw (add-one, take-suc-set old at b h) (sym (take_all (length old) (take at old ++ (b ∷ [])) fits));
        size_is = length-set old at b;
        counts = counted (set old at b) (at + 1) (omega (arith, length-set old at b));
      }

pub adds_append : {old mid new xs ys : List ℕ} {a b c : ℕ} → Adds old a xs mid b → Adds mid b ys new c → Adds old a (xs ++ ys) new c
adds_append {old} {xs} {ys} {a} p q = record {
  text_is = q.text_is ∙ rw (p.size_is, p.text_is, cut_once (length old) (take a old ++ xs) ys, append_assoc);
  size_is = q.size_is ∙ p.size_is;
  counts = q.counts;
}

-- as much of the bytes as there is room for is copied behind the text
pub adds_part : (old bytes part : List ℕ) (at from n k : ℕ) → from ≡ min at (length old) → n ≡ min (length old - from) (length bytes)
    → part ≡ take n bytes → length part ≡ length (mid_of from k old) → Adds old at bytes (put_mid from k old part) (from + n)
adds_part old bytes part at from n k f m p e =
    let size : length part ≡ n = rw p (length-take-le n bytes (omega arith)) in
    let front : take from old ≡ take at old = rw (f, take_min at old) in
    let as_long : length (take at old) ≡ from = length-take at old ∙ sym f in
    let some : take n bytes ≡ take (length old - from) bytes = rw (m, take_min (length old - from) bytes) in
    let whole : length old ≡ length (take at old) + (length old - from) = omega arith in
    let fits : take (length old) (take at old ++ bytes) ≡ take at old ++ take (length old - from) bytes
    = ap (λ (j : ℕ). take j (take at old ++ bytes)) whole ∙ take-append-add (take at old) bytes (length old - from) in
    let same = same_len_mid from k old part e in
    record {
      text_is = take-put_mid from k old part (from + n) (omega arith) (omega arith) ∙ rw (front, p, some) (sym fits);
      size_is = same;
      counts = counted (put_mid from k old part) (from + n) (omega arith);
    }

-- a number of 64 bits has 20 digits at most
twenty : (n k : ℕ) → n < 2 ^ 64 → IsDigitCount 10 1 n k → k ≤ 20
twenty n k h few = go (leb k 20) refl
  where
    go : (b : Bool) → leb k 20 ≡ b → k ≤ 20
    go true e = leb-true k 20 e
    go false e =
        let long : 20 < k = leb-false k 20 e in
        let large : 10 ^ 20 ≤ 10 ^ (k - 1) = pow-le-pow_right {n = 10} (omega arith) {i = 20} {j = k - 1} (omega arith) in
        absurd (omega (arith, few.2 (omega arith)))

-- the fewest digits that hold a number are as many as the definition says
pub digits_are : (n k : ℕ) → n < 2 ^ 64 → IsDigitCount 10 1 n k → last_digits 10 k n ≡ decimal n
unfolding decimal
digits_are n k h few =
    let as_many : k ≡ places n = omega (arith, few.0, found) in
    ap (λ (m : ℕ). last_digits 10 m n) as_many
  where
    fewer : (j : ℕ) → j < k - 1 → ltb n (10 ^ suc j) ≡ false
    fewer j l =
        let large : 10 ^ suc j ≤ 10 ^ (k - 1) = pow-le-pow_right {n = 10} (omega arith) {i = suc j} {j = k - 1} (omega arith) in
        le-ltb n (10 ^ suc j) (omega (arith, few.2 (omega arith)))

    same : suc (k - 1) ≡ k
    same = omega (arith, few.0)

    found : k - 1 ≡ lowest (λ (j : ℕ). ltb n (10 ^ suc j)) 0 20
    found =
        stopped (λ j. ltb n (10 ^ suc j)) 20 (k - 1) (omega (arith, few.0, twenty n k h few)) fewer
        (lt-ltb n (10 ^ suc (k - 1)) (rw same few.1))
