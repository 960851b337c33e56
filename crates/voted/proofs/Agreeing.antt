-- Which copies agree, added up over many groups, tells the weak copies. Assumes nothing.
use mathlib.Core.Path.{◌≡◌, refl, sym, ◌∙◌}
use mathlib.Core.Bool.{Bool, true, false, cond, ◌&&◌, ◌||◌, true≢false}
use mathlib.Core.List.{List}
use Prim.Native.Nat.{ℕ, ◌+◌, ◌*◌, ◌-◌, ◌/◌, ◌%◌, ◌≤◌, ◌<◌}
use native.Mathlib.Nat.{zero-mul, mul-zero, mul-le-mul}
use native.Mathlib.Omega.{arith}
use lib.Bits.{bit_xor, xor_self, xor_lt}
use lib.Dec.{eqb}
use lib.ListN.{length}
use mir.Val.{bool_byte}
use borrow.Author.Tests.{eq-eqb, eqb-true}
use Rattle.base.specs.Lists.{one, count_by}
use Rattle.labelling.specs.declared.Weak.{Weak}
use Rattle.labelling.specs.declared.Word.{Word}
use Rattle.labelling.specs.declared.Word.TheVariants.{Voted, Erased}
use Rattle.labelling.specs.Words.{byte_vote, weak_copy}
use Rattle.labelling.specs.MajorFrames.{value}
use Rattle.voted.specs.Copies.{Copies, copies, IsVoted, word_of, named, weak_in, side_by_side, agreement, agreements, Summed}
use Rattle.voted.specs.Stretches.{Decided, ends, fill, stray, group}

-- ---- one group

pub one-few : (b : Bool) → one b ≤ 1
one-few true = omega arith
one-few false = omega arith

pub bit-few : (b : Bool) → bool_byte b ≤ 1
bit-few true = omega arith
bit-few false = omega arith

pub agreement-few : (g : Copies) → agreement g ≤ 0x100010001
agreement-few g =
    omega (arith, one-few (eqb g.first g.second), one-few (eqb g.first g.third), one-few (eqb g.second g.third))

-- the vote by bytes, from which copies are equal
abbrev vote_from : Bool → Bool → Bool → ℕ → ℕ → Word
vote_from x y z a b = cond (x || y) (Voted a) (cond z (Voted b) Erased)

pub voted_of : (g : Copies) → (agreement g ≡ 0 → ⊥) → IsVoted g
unfolding byte_vote
voted_of g h = go (eqb g.first g.second) (eqb g.first g.third) (eqb g.second g.third) h
  where
    go : (x y z : Bool) → (side_by_side (one x) (one y) (one z) ≡ 0 → ⊥)
        → vote_from x y z g.first g.second ≡ Voted (value (vote_from x y z g.first g.second))
    go true y z h = refl
    go false true z h = refl
    go false false true h = refl
    go false false false h = absurd (h refl)

pub split_of : (g : Copies) → agreement g ≡ 0 → IsVoted g → ⊥
unfolding byte_vote
split_of g h v = go (eqb g.first g.second) (eqb g.first g.third) (eqb g.second g.third) h v
  where
    go : (x y z : Bool) → side_by_side (one x) (one y) (one z) ≡ 0
        → vote_from x y z g.first g.second ≡ Voted (value (vote_from x y z g.first g.second)) → ⊥
    go true y z h v = omega arith
    go false true z h v = omega arith
    go false false true h v = omega arith
    go false false false h v = let z : ◌≡◌ {A = ℕ} 0 1 = cc in omega arith

-- the number of the weak copy, from which copies are equal
abbrev weak_from : Bool → Bool → Bool → ℕ
weak_from x y z = cond x (cond y 0 3) (cond y 2 (cond z 1 0))

-- two copies are equal where the third is weak, or all three are equal; and of a voted group one of these four holds
record Parts (x y z : Bool) : Type 0 where
  first_two : one x ≡ one (eqb (weak_from x y z) 3) + one (x && y)
  outer_two : one y ≡ one (eqb (weak_from x y z) 2) + one (x && y)
  last_two : one z ≡ one (eqb (weak_from x y z) 1) + one (x && y)
  whole : one (eqb (weak_from x y z) 1) + one (eqb (weak_from x y z) 2) + one (eqb (weak_from x y z) 3) + one (x && y) ≡ 1

parts : (a b c : ℕ) (x y z : Bool) → eqb a b ≡ x → eqb a c ≡ y → eqb b c ≡ z → vote_from x y z a b ≡ Voted (value (vote_from x y z a b)) → Parts x y z
parts a b c true true true p q s v = record { first_two = refl; outer_two = refl; last_two = refl; whole = refl }
parts a b c true true false p q s v = absurd (true≢false (sym (eq-eqb b c (sym (eqb-true a b p) ∙ eqb-true a c q)) ∙ s))
parts a b c true false true p q s v = absurd (true≢false (sym (eq-eqb a c (eqb-true a b p ∙ eqb-true b c s)) ∙ q))
parts a b c true false false p q s v = record { first_two = refl; outer_two = refl; last_two = refl; whole = refl }
parts a b c false true true p q s v = absurd (true≢false (sym (eq-eqb a b (eqb-true a c q ∙ sym (eqb-true b c s))) ∙ p))
parts a b c false true false p q s v = record { first_two = refl; outer_two = refl; last_two = refl; whole = refl }
parts a b c false false true p q s v = record { first_two = refl; outer_two = refl; last_two = refl; whole = refl }
parts a b c false false false p q s v = absurd (let z : ◌≡◌ {A = ℕ} 0 1 = cc in omega arith)

told : (g : Copies) → IsVoted g → Parts (eqb g.first g.second) (eqb g.first g.third) (eqb g.second g.third)
unfolding byte_vote
told g v = parts g.first g.second g.third _ _ _ refl refl refl v

-- what each two copies differ in, multiplied
module _ (a b c : ℕ) where
  pub apart_none : IsVoted (copies a b c) → bit_xor a b * bit_xor a c * bit_xor b c ≡ 0
  apart_none v = go (eqb a b) (eqb a c) (eqb b c) refl refl refl
    where
      go : (x y z : Bool) → eqb a b ≡ x → eqb a c ≡ y → eqb b c ≡ z → bit_xor a b * bit_xor a c * bit_xor b c ≡ 0
      go true y z e f g =
          let none : bit_xor a b ≡ 0 = rw (eqb-true a b e) (xor_self b) in
          rw (none, zero-mul (bit_xor a c), zero-mul (bit_xor b c))
      go false true z e f g =
          let none : bit_xor a c ≡ 0 = rw (eqb-true a c f) (xor_self c) in
          rw (none, mul-zero (bit_xor a b), zero-mul (bit_xor b c))
      go false false true e f g =
          let none : bit_xor b c ≡ 0 = rw (eqb-true b c g) (xor_self c) in
          rw (none, mul-zero (bit_xor a b * bit_xor a c))
      go false false false e f g = absurd (split_of (copies a b c) (rw (e, f, g)) v)

  pub apart-few : a < 256 → b < 256 → c < 256 → (bit_xor a b * bit_xor a c ≤ 255 * 255) × (bit_xor a b * bit_xor a c * bit_xor b c ≤ 255 * 255 * 255)
  apart-few ha hb hc =
      let x : bit_xor a b ≤ 255 = omega (arith, xor_lt 8 a b ha hb) in
      let y : bit_xor a c ≤ 255 = omega (arith, xor_lt 8 a c ha hc) in
      let z : bit_xor b c ≤ 255 = omega (arith, xor_lt 8 b c hb hc) in
      (mul-le-mul x y, mul-le-mul (mul-le-mul x y) z)

-- three equal copies
module _ (a b c : ℕ) (second : a ≡ b) (third : a ≡ c) where
  pub alike-agreement : 0x100010001 ≡ agreement (copies a b c)
  alike-agreement = rw (eq-eqb a b second, eq-eqb a c third, eq-eqb b c (sym second ∙ third))

  pub alike-word : a ≡ word_of (copies a b c)
  unfolding byte_vote
  alike-word = rw (eq-eqb a b second)

-- ---- many groups

-- how many have three equal copies
abbrev pub alike : List Copies → ℕ
alike gs = count_by (λ g. eqb g.first g.second && eqb g.first g.third) gs

record Sums (gs : List Copies) : Type 0 where
  sums_are : agreements gs ≡ side_by_side (named 3 gs + alike gs) (named 2 gs + alike gs) (named 1 gs + alike gs)
  count-is : length gs ≡ named 1 gs + named 2 gs + named 3 gs + alike gs

sums_of : {p : List ℕ} {i j k : ℕ} {gs : List Copies} → Decided p i j k gs → Sums gs
unfolding weak_copy
sums_of ends = record { sums_are = refl; count-is = refl }
sums_of (fill b n) = sums_of n
sums_of (stray x b s f n) = sums_of n
sums_of (group g s v n) =
    let rest = sums_of n in
    let first = told g v in
    record {
      sums_are = omega (arith, rest.sums_are, first.first_two, first.outer_two, first.last_two);
      count-is = omega (arith, rest.count-is, first.whole);
    }

module _ {p : List ℕ} {i j k : ℕ} {gs : List Copies} (n : Decided p i j k gs) where
  pub summed_of : length gs < 0x10000 → Summed (agreements gs) (length gs) (weak_in gs) (alike gs)
  summed_of h = record { sums_are = (sums_of n).sums_are; count-is = (sums_of n).count-is; few = h }

  -- no copy is weak more often than there are groups
  pub weak_few : (named 1 gs ≤ length gs) × (named 2 gs ≤ length gs) × (named 3 gs ≤ length gs)
  weak_few = let s = (sums_of n).count-is in (omega arith, omega arith, omega arith)

low_lane : (x y s : ℕ) → x < 0x10000 → s ≡ x + 0x10000 * y → s % 0x10000 ≡ x
low_lane x y s h e = omega arith

-- the counts that stand side by side
lanes : {s n all : ℕ} {w : Weak} → Summed s n w all
    → (s % 0x10000 ≡ w.third + all) × (s / 0x10000 % 0x10000 ≡ w.second + all) × (s / 0x100000000 ≡ w.first + all)
lanes {s} {n} {all} {w} h =
    let upper : s / 0x10000 ≡ w.second + all + 0x10000 * (w.first + all) = omega arith in
    (omega arith, low_lane (w.second + all) (w.first + all) (s / 0x10000) (omega arith) upper, omega arith)

-- what is left of each count where the groups of three equal copies are taken off
pub record Left (x y z n : ℕ) (w : Weak) : Type 0 where
  pub enough : n ≤ x + y + z
  pub enough_x : (x + y + z - n) / 2 ≤ x
  pub enough_y : (x + y + z - n) / 2 ≤ y
  pub enough_z : (x + y + z - n) / 2 ≤ z
  pub first-is : z - (x + y + z - n) / 2 ≡ w.first
  pub second_is : y - (x + y + z - n) / 2 ≡ w.second
  pub third_is : x - (x + y + z - n) / 2 ≡ w.third

left-of : (x y z n all : ℕ) (w : Weak) → x ≡ w.third + all → y ≡ w.second + all → z ≡ w.first + all
    → n ≡ w.first + w.second + w.third + all → Left x y z n w
left-of x y z n all w ex ey ez en =
    let alike : (x + y + z - n) / 2 ≡ all = omega arith in
    record {
      enough = omega arith;
      enough_x = omega arith;
      enough_y = omega arith;
      enough_z = omega arith;
      first-is = omega arith;
      second_is = omega arith;
      third_is = omega arith;
    }

pub same-weak : {v w : Weak} → v.first ≡ w.first → v.second ≡ w.second → v.third ≡ w.third → v ≡ w
same-weak first second third = rw (first, second, third)

pub weak_left : {s n all : ℕ} {w : Weak} → Summed s n w all → Left (s % 0x10000) (s / 0x10000 % 0x10000) (s / 0x100000000) n w
weak_left {s} {n} {all} {w} h =
    let told = lanes h in
    left-of (s % 0x10000) (s / 0x10000 % 0x10000) (s / 0x100000000) n all w told.0 told.1 told.2 h.count-is
