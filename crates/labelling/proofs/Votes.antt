-- The two rules of the vote. The vote by bits is what 02's sentence asks for and nothing else; the and/or masks compute it; two equal copies
-- decide under either rule, so where rule 1 gives a word rule 2 gives the same; rule 2 splits no group. Numbers are halved until they are 0.
-- Assumes nothing.
use mathlib.Core.Path.{◌≡◌, refl, sym, ap, ◌∙◌}
use mathlib.Core.Bool.{Bool, true, false, cond, ◌||◌}
use mathlib.Core.List.{List, [], ◌∷◌, ◌++◌, map}
use Prim.Native.Nat.{ℕ, zero, suc, ◌+◌, ◌*◌, ◌/◌, ◌%◌, ◌≤◌, ◌<◌, min, max}
use native.Mathlib.Omega.{arith}
use lib.Bits.{bit_and, bit_or, and_step, or_step, and_shr, or_shr}
use lib.Dec.{eqb, leb}
use lib.Pow.{shr-shr}
use borrow.Author.Tests.{eqb-true, eqb-false, eq-eqb, leb-true, leb-false}
use Rattle.base.specs.Lists.{concat_map, one, count_by}
use Rattle.labelling.specs.declared.Word.{Word}
use Rattle.labelling.specs.declared.Word.TheVariants.{Voted, Erased}
use Rattle.labelling.specs.Words.{Group, fill, stray, closed, opened, groups, Vote, byte_vote}
use Rattle.labelling.specs.Words.{Label, as-split, as-open, same_label, closed_as, labels_of, labels, labelled}
use Rattle.labelling.specs.Votes.{bit_at, how_many, EachBit, most, voted_bits, bit_vote, VotedByBits, rule_vote, Unanimous, Majority, NeverSplit}

-- ---- bits

lowest : (n : ℕ) → bit_at 0 n ≡ n % 2
lowest n = omega arith

-- the bits above the lowest are those of the half
higher : (i n : ℕ) → bit_at (suc i) n ≡ bit_at i (n / 2)
higher i n =
    let e : suc i ≡ 1 + i = omega arith in
    rw (e, ← shr-shr n 1 i)

none-set : (i : ℕ) → bit_at i 0 ≡ 0
none-set zero = refl
none-set (suc i) = higher i 0 ∙ none-set i

is_bit : (i n : ℕ) → bit_at i n < 2
is_bit i n = omega arith

-- numbers with the same bits are equal
same_bits : (n w v : ℕ) → w ≤ n → v ≤ n → ((i : ℕ) → bit_at i w ≡ bit_at i v) → w ≡ v
same_bits zero w v hw hv h = omega arith
same_bits (suc n) w v hw hv h =
    let halves : w / 2 ≡ v / 2 =
    same_bits n (w / 2) (v / 2) (omega arith) (omega arith) (λ i. sym (higher i w) ∙ h (suc i) ∙ higher i v) in
    let low : w % 2 ≡ v % 2 = sym (lowest w) ∙ h 0 ∙ lowest v in
    omega arith

-- ---- the bit that at least two have

-- of three bits at least two have only one value
never_both : (x y p : ℕ) → (x ≡ y → ⊥) → one (eqb p x) + one (eqb p y) ≤ 1
never_both x y p h = go (eqb p x) (eqb p y) refl refl
  where
    go : (e f : Bool) → eqb p x ≡ e → eqb p y ≡ f → one e + one f ≤ 1
    go true true s t = absurd (h (sym (eqb-true p x s) ∙ eqb-true p y t))
    go true false s t = omega arith
    go false true s t = omega arith
    go false false s t = omega arith

one_value : (x y p q r : ℕ) → 2 ≤ how_many x p q r → 2 ≤ how_many y p q r → x ≡ y
one_value x y p q r hx hy = go (eqb x y) refl
  where
    go : (e : Bool) → eqb x y ≡ e → x ≡ y
    go true e = eqb-true x y e
    go false e =
        let other = eqb-false x y e in
        absurd (omega (arith, never_both x y p other, never_both x y q other, never_both x y r other))

most-is : (p q r : ℕ) → p < 2 → q < 2 → r < 2 → most p q r ≡ (p + q + r) / 2
most-is p q r hp hq hr = go (leb 2 (p + q + r)) refl
  where
    go : (e : Bool) → leb 2 (p + q + r) ≡ e → cond e 1 0 ≡ (p + q + r) / 2
    go true e = omega (arith, leb-true)
    go false e = omega (arith, leb-false)

-- the lowest bits of three numbers
most-low : (a b c : ℕ) → most (a % 2) (b % 2) (c % 2) ≡ (a % 2 + b % 2 + c % 2) / 2
most-low a b c = most-is (a % 2) (b % 2) (c % 2) (omega arith) (omega arith) (omega arith)

-- how many of p and 1 - p are x, for a bit p
as_one : (p : ℕ) → p < 2 → one (eqb p 1) ≡ p
as_one zero h = refl
as_one (suc zero) h = refl
as_one (suc (suc p)) h = absurd (omega arith)

as_zero : (p : ℕ) → p < 2 → one (eqb p 0) + p ≡ 1
as_zero zero h = refl
as_zero (suc zero) h = refl
as_zero (suc (suc p)) h = absurd (omega arith)

most-has : (p q r : ℕ) → p < 2 → q < 2 → r < 2 → 2 ≤ how_many (most p q r) p q r
most-has p q r hp hq hr = go (leb 2 (p + q + r)) refl
  where
    go : (e : Bool) → leb 2 (p + q + r) ≡ e → 2 ≤ how_many (cond e 1 0) p q r
    go true e = omega (arith, leb-true 2 (p + q + r) e, as_one p hp, as_one q hq, as_one r hr)
    go false e = omega (arith, leb-false 2 (p + q + r) e, as_zero p hp, as_zero q hq, as_zero r hr)

-- ---- 02's sentence

bit-voted : (n i a b c : ℕ) → a ≤ n → b ≤ n → c ≤ n → bit_at i (voted_bits n a b c) ≡ most (bit_at i a) (bit_at i b) (bit_at i c)
bit-voted zero i a b c ha hb hc =
    let za : a ≡ 0 = omega arith in
    let zb : b ≡ 0 = omega arith in
    let zc : c ≡ 0 = omega arith in
    rw (za, zb, zc, none-set i)
bit-voted (suc n) zero a b c ha hb hc = rw (lowest a, lowest b, lowest c) (omega (arith, most-low a b c))
bit-voted (suc n) (suc i) a b c ha hb hc =
    let v = voted_bits n (a / 2) (b / 2) (c / 2) in
    let m = most (a % 2) (b % 2) (c % 2) in
    let half : (v * 2 + m) / 2 ≡ v = omega (arith, most-low a b c) in
    higher i (v * 2 + m)
    ∙ rw (half, higher i a, higher i b, higher i c) (bit-voted n i (a / 2) (b / 2) (c / 2) (omega arith) (omega arith) (omega arith))

module _ (a b c : ℕ) where
  abbrev by_bits : ℕ
  by_bits = voted_bits (a + b + c) a b c

  each-bit : EachBit a b c by_bits
  each-bit i =
      rw (bit-voted (a + b + c) i a b c (omega arith) (omega arith) (omega arith))
      (most-has (bit_at i a) (bit_at i b) (bit_at i c) (is_bit i a) (is_bit i b) (is_bit i c))

  no_other : (w v : ℕ) → EachBit a b c w → EachBit a b c v → v ≡ w
  no_other w v h k =
      same_bits (v + w) v w (omega arith) (omega arith)
      (λ i. one_value (bit_at i v) (bit_at i w) (bit_at i a) (bit_at i b) (bit_at i c) (k i) (h i))

-- ---- two equal copies decide

bits-12 : (n a c : ℕ) → a ≤ n → voted_bits n a a c ≡ a
bits-12 zero a c h = omega arith
bits-12 (suc n) a c h = omega (arith, bits-12 n (a / 2) (c / 2) (omega arith), most-low a a c)

bits-13 : (n a b : ℕ) → a ≤ n → voted_bits n a b a ≡ a
bits-13 zero a b h = omega arith
bits-13 (suc n) a b h = omega (arith, bits-13 n (a / 2) (b / 2) (omega arith), most-low a b a)

bits-23 : (n a b : ℕ) → b ≤ n → voted_bits n a b b ≡ b
bits-23 zero a b h = omega arith
bits-23 (suc n) a b h = omega (arith, bits-23 n (a / 2) (b / 2) (omega arith), most-low a b b)

majority_bits : Majority bit_vote
unfolding bit_vote
majority_bits = record {
  first_two = λ x y. ap Voted (bits-12 (x + x + y) x y (omega arith));
  outer_two = λ x y. ap Voted (bits-13 (x + y + x) x y (omega arith));
  last_two = λ x y. ap Voted (bits-23 (y + x + x) y x (omega arith));
}

majority_bytes : Majority byte_vote
unfolding byte_vote
majority_bytes = record {
  first_two = λ x y. rw (eq-eqb x x refl);
  outer_two = λ x y. outer (eqb x y) x y;
  last_two = λ x y. last (eqb y x) x y refl;
}
  where
    outer : (e : Bool) (x y : ℕ) → cond (e || eqb x x) (Voted x) (cond (eqb y x) (Voted y) Erased) ≡ Voted x
    outer true x y = refl
    outer false x y = rw (eq-eqb x x refl)

    last : (e : Bool) (x y : ℕ) → eqb y x ≡ e → cond (e || e) (Voted y) (cond (eqb x x) (Voted x) Erased) ≡ Voted x
    last true x y q = ap Voted (eqb-true y x q)
    last false x y q = rw (eq-eqb x x refl)

pub majority : (rule : ℕ) → Majority (rule_vote rule)
unfolding rule_vote
majority rule = go (eqb rule 2)
  where
    go : (e : Bool) → Majority (cond e bit_vote byte_vote)
    go true = majority_bits
    go false = majority_bytes

pub unanimous : (rule : ℕ) → Unanimous (rule_vote rule)
unanimous rule = record { all_three = λ x. (majority rule).first_two x x }

-- ---- where rule 1 gives a word, such a vote gives the same

pub same_word : {vote : Vote} → Majority vote → (a b c w : ℕ) → byte_vote a b c ≡ Voted w → vote a b c ≡ Voted w
unfolding byte_vote
same_word {vote} m a b c w e = go (eqb a b) (eqb a c) (eqb b c) refl refl refl e
  where
    go : (x y z : Bool) → eqb a b ≡ x → eqb a c ≡ y → eqb b c ≡ z → cond (x || y) (Voted a) (cond z (Voted b) Erased) ≡ Voted w → vote a b c ≡ Voted w
    go true y z p q s e = rw (← eqb-true a b p) (m.first_two a c) ∙ e
    go false true z p q s e = rw (← eqb-true a c q) (m.outer_two a b) ∙ e
    go false false true p q s e = rw (← eqb-true b c s) (m.last_two b a) ∙ e
    go false false false p q s e = absurd (let z : ◌≡◌ {A = ℕ} 0 1 = cc in omega arith)

-- ---- rule 2 splits no group

pub never_split : NeverSplit bit_vote
unfolding bit_vote
never_split a b c e = let z : ◌≡◌ {A = ℕ} 0 1 = cc in omega arith

pub rule_never_split : {rule : ℕ} → rule ≡ 2 → NeverSplit (rule_vote rule)
unfolding rule_vote
rule_never_split e = rw e never_split

-- so under such a vote no byte has that label
module _ {vote : Vote} (never : NeverSplit vote) where
  abbrev split_in : List (ℕ × Label) → ℕ
  split_in l = count_by (λ x. same_label as-split x.1) l

  open_aside : (l : List ℕ) (more : List (ℕ × Label)) → split_in (map (λ b. (b, as-open)) l ++ more) ≡ split_in more
  open_aside [] more = refl
  open_aside (b ∷ l) more = omega (arith, open_aside l more)

  closed_aside : (w : Word) → (w ≡ Erased → ⊥) → one (same_label as-split (closed_as w)) ≡ 0
  closed_aside (Voted n) h = refl
  closed_aside Erased h = absurd (h refl)

  none_in : (gs : List Group) → split_in (concat_map (labels_of vote) gs) ≡ 0
  none_in [] = refl
  none_in (fill ∷ gs) = omega (arith, none_in gs)
  none_in (stray b ∷ gs) = omega (arith, none_in gs)
  none_in (closed a b c ∷ gs) = omega (arith, none_in gs, closed_aside (vote a b c) (never a b c))
  none_in (opened l ∷ gs) = omega (arith, none_in gs, open_aside l (concat_map (labels_of vote) gs))

  pub none-labelled : (bs : List ℕ) → labelled vote as-split bs ≡ 0
  unfolding labels labelled
  none-labelled bs = none_in (groups bs)

-- ---- the masks

half_and : (a b : ℕ) → bit_and a b / 2 ≡ bit_and (a / 2) (b / 2)
half_and a b = and_shr a b 1

half_or : (a b : ℕ) → bit_or a b / 2 ≡ bit_or (a / 2) (b / 2)
half_or a b = or_shr a b 1

low_and : (a b : ℕ) → bit_and a b % 2 ≡ min (a % 2) (b % 2)
low_and a b = omega (arith, and_step a b)

low_or : (a b : ℕ) → bit_or a b % 2 ≡ max (a % 2) (b % 2)
low_or a b = omega (arith, or_step a b)

-- what the code computes
abbrev pub by_masks : ℕ → ℕ → ℕ → ℕ
by_masks a b c = bit_or (bit_or (bit_and a b) (bit_and a c)) (bit_and b c)

bits-masked : (n a b c : ℕ) → a ≤ n → b ≤ n → c ≤ n → voted_bits n a b c ≡ by_masks a b c
bits-masked zero a b c ha hb hc =
    let za : a ≡ 0 = omega arith in
    let zb : b ≡ 0 = omega arith in
    rw (za, zb)
bits-masked (suc n) a b c ha hb hc =
    let x = bit_or (bit_and a b) (bit_and a c) in
    let y = bit_and b c in
    let rest : voted_bits n (a / 2) (b / 2) (c / 2) ≡ by_masks a b c / 2 =
    bits-masked n (a / 2) (b / 2) (c / 2) (omega arith) (omega arith) (omega arith)
    ∙ sym (half_or x y ∙ rw (half_or (bit_and a b) (bit_and a c), half_and a b, half_and a c, half_and b c)) in
    let low : by_masks a b c % 2 ≡ max (max (min (a % 2) (b % 2)) (min (a % 2) (c % 2))) (min (b % 2) (c % 2)) =
    low_or x y ∙ rw (low_or (bit_and a b) (bit_and a c), low_and a b, low_and a c, low_and b c) in
    omega (arith, rest, low, most-low a b c)

module _ (a b c : ℕ) where
  masks_are : by_bits a b c ≡ by_masks a b c
  masks_are = bits-masked (a + b + c) a b c (omega arith) (omega arith) (omega arith)

  pub masks_vote : Voted (by_masks a b c) ≡ bit_vote a b c
  unfolding bit_vote
  masks_vote = ap Voted (sym masks_are)

  -- and their word is 02's
  pub masks_voted : VotedByBits a b c (by_masks a b c)
  unfolding bit_vote
  masks_voted =
      rw (← masks_are) record {
        each-bit = each-bit a b c;
        no_other = λ v h. no_other a b c (by_bits a b c) v (each-bit a b c) h;
        as_by_bytes = λ v e. let same : bit_vote a b c ≡ Voted v = same_word majority_bits a b c v e in (cc);
      }
