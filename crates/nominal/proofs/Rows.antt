-- Rows of sixteen groups and of sixteen cells, from what is known of each of their bytes. Assumes nothing.
use mathlib.Core.Path.{◌≡◌, refl, ◌∙◌}
use mathlib.Core.Bool.{Bool, true, false, not, ◌&&◌, ◌||◌, or-true}
use mathlib.Core.List.{List}
use Prim.Native.Nat.{ℕ, ◌+◌, ◌*◌, ◌%◌, ◌≤◌, ◌<◌}
use native.Mathlib.Omega.{arith}
use mir.Val.{bool_byte}
use lib.Bits.{bit_or, or_add_and, and_le_l, and_le_r}
use lib.Dec.{eqb, ltb}
use lib.ListN.{length, get_or, set}
use lib.Seq.{get_or-set_same, get_or-set_other}
use borrow.Author.Count.{below_more}
use borrow.Author.Tests.{eq-eqb, eqb-true, lt-ltb}
use Rattle.base.specs.Format.{SYNC, FILL}
use Rattle.quiet.specs.Quiet.{Byte}
use Rattle.nominal.specs.Stretches.{Group, Belongs, Row, Usual, InCell, CellRow, Stored}

-- ---- tests

-- bits joined are none where there are none
pub or_none : (a b : ℕ) → bit_or a b ≡ 0 → (a ≡ 0) × (b ≡ 0)
or_none a b e = (omega (arith, or_add_and a b, and_le_r a b, e), omega (arith, or_add_and a b, and_le_l a b, e))

bit-none : (b : Bool) → bool_byte b ≡ 0 → b ≡ false
bit-none true e = absurd (omega arith)
bit-none false e = refl

neither : (a b : Bool) → (a || b) ≡ false → (a ≡ false) × (b ≡ false)
neither true b e = let z : ◌≡◌ {A = ℕ} 0 1 = cc in absurd (omega arith)
neither false b e = (refl, e)

left-holds : (a b : Bool) → a ≡ true → (a || b) ≡ true
left-holds a b e = rw e

right_holds : (a b : Bool) → b ≡ true → (a || b) ≡ true
right_holds a b e = rw e (or-true a)

-- ---- one byte

-- this is the place, and another byte than y stands there
abbrev other : Bool → ℕ → ℕ → Bool
other here x y = here && not (eqb x y)

none_other : (here : Bool) (x y : ℕ) → other here x y ≡ false → here ≡ true → x ≡ y
none_other here x y e h = eqb-true x y (go here (eqb x y) e h)
  where
    go : (a b : Bool) → (a && not b) ≡ false → a ≡ true → b ≡ true
    go true true f t = refl
    go true false f t = let z : ◌≡◌ {A = ℕ} 0 1 = cc in absurd (omega arith)
    go false b f t = let z : ◌≡◌ {A = ℕ} 0 1 = cc in absurd (omega arith)

-- x, with y after it, is wrong at this place of a group
abbrev pub is_wrong : ℕ → ℕ → ℕ → Bool
is_wrong place x y = (other (eqb place 0) x SYNC || other (eqb place 1) x y) || other (eqb place 2) x y

pub belongs : (place x y : ℕ) → bool_byte (is_wrong place x y) ≡ 0 → Belongs place x y
belongs place x y e =
    let at_second = neither (other (eqb place 0) x SYNC || other (eqb place 1) x y) (other (eqb place 2) x y) (bit-none _ e) in
    let at_first = neither (other (eqb place 0) x SYNC) (other (eqb place 1) x y) at_second.0 in
    record {
      sync = λ h. none_other (eqb place 0) x SYNC at_first.0 (eq-eqb place 0 h);
      first = λ h. none_other (eqb place 1) x y at_first.1 (eq-eqb place 1 h);
      second = λ h. none_other (eqb place 2) x y at_second.1 (eq-eqb place 2 h);
    }

-- the same in a cell: r is looked for at place 0 and after place n
abbrev is_wrong_in_cell : ℕ → ℕ → ℕ → ℕ → ℕ → Bool
is_wrong_in_cell n place x y r = other (eqb place 0 || ltb n place) x r || other (eqb place 1 || eqb place 2) x y

pub in_cell : (n place x y r : ℕ) → bool_byte (is_wrong_in_cell n place x y r) ≡ 0 → n ≤ 3 → Usual place r → InCell place x y
in_cell n place x y r e few u =
    let none = neither (other (eqb place 0 || ltb n place) x r) (other (eqb place 1 || eqb place 2) x y) (bit-none _ e) in
    let usual = none_other (eqb place 0 || ltb n place) x r none.0 in
    let same = none_other (eqb place 1 || eqb place 2) x y none.1 in
    record {
      group = record {
        sync = λ h. usual (left-holds (eqb place 0) (ltb n place) (eq-eqb place 0 h)) ∙ u.sync h;
        first = λ h. same (left-holds (eqb place 1) (eqb place 2) (eq-eqb place 1 h));
        second = λ h. same (right_holds (eqb place 1) (eqb place 2) (eq-eqb place 2 h));
      };
      fill = λ h. usual (right_holds (eqb place 0) (ltb n place) (lt-ltb n place (omega arith))) ∙ u.fill h;
    }

-- ---- the bytes of a row

module _ (In : ℕ → ℕ → ℕ → Type 0) (width : ℕ) (p : List ℕ) (i : ℕ) where
  -- the first k bytes from i on belong at their places, of which there are `width` in a group or in a cell
  abbrev pub Belong : ℕ → Type 0
  Belong k = (m : ℕ) → m < k → In (m % width) (get_or p (i + m) 0) (get_or p (i + m + 1) 0)

  pub belong_more : (k : ℕ) → Belong k → In (k % width) (get_or p (i + k) 0) (get_or p (i + k + 1) 0) → Belong (k + 1)
  belong_more k b h = below_more (λ m. In (m % width) (get_or p (i + m) 0) (get_or p (i + m + 1) 0)) k b h

module _ (width : ℕ) (p : List ℕ) (i : ℕ) where
  -- a group, from what is known of its first three bytes
  group_of : (k n : ℕ) → i + k < length p → n + 3 ≤ k → Belong Belongs width p i k → n % width ≡ 0 → (n + 1) % width ≡ 1 → (n + 2) % width ≡ 2
      → Group p (i + n) (get_or p (i + n + 1) 0)
  group_of k n inside few b place0 place1 place2 =
      let at_first : i + (n + 1) ≡ i + n + 1 = omega arith in
      let at_second : i + (n + 2) ≡ i + n + 2 = omega arith in
      let after_first : i + (n + 1) + 1 ≡ i + n + 2 = omega arith in
      let after-second : i + (n + 2) + 1 ≡ i + n + 3 = omega arith in
      let sync = (b n (omega arith)).sync place0 in
      let same = (b (n + 1) (omega arith)).first place1 in
      let same' = (b (n + 2) (omega arith)).second place2 in
      record {
        sync = record { inside = omega arith; is = sync };
        first = record { inside = omega arith; is = refl };
        second = record { inside = omega arith; is = cc };
        third = record { inside = omega arith; is = cc };
      }

module _ (p : List ℕ) (i : ℕ) where
  pub row_of : i + 64 < length p → Belong Belongs 4 p i 64 → Row p i
  row_of inside b m h = group_of 4 p i 64 (4 * m) inside (omega arith) b (omega arith) (omega arith) (omega arith)

  pub cell-row_of : i + 144 < length p → Belong InCell 9 p i 144 → CellRow p i
  cell-row_of inside b m h =
      record {
        group = group_of 9 p i 144 (9 * m) inside (omega arith) (λ k l. (b k l).group) (omega arith) (omega arith) (omega arith);
        four = record {
          fill0 = fill (9 * m + 4) (omega arith) (omega arith) (omega arith);
          fill1 = fill (9 * m + 5) (omega arith) (omega arith) (omega arith);
          fill2 = fill (9 * m + 6) (omega arith) (omega arith) (omega arith);
          fill3 = fill (9 * m + 7) (omega arith) (omega arith) (omega arith);
        };
        fifth = fill (9 * m + 8) (omega arith) (omega arith) (omega arith);
      }
    where
      fill : {j : ℕ} (n : ℕ) → j ≡ i + n → n < 144 → 3 < n % 9 → Byte p j FILL
      fill n e few place = record { inside = omega arith; is = rw e ((b n few).fill place) }

-- ---- the words of a row

module _ (p : List ℕ) (i : ℕ) where
  -- the first k words
  abbrev pub WordsTo : List ℕ → ℕ → Type 0
  WordsTo ws k = (m : ℕ) → m < k → get_or ws m 0 ≡ get_or p (i + 4 * m + 1) 0

  pub words_more : (ws : List ℕ) (k x : ℕ) → k < length ws → WordsTo ws k → x ≡ get_or p (i + 4 * k + 1) 0 → WordsTo (set ws k x) (k + 1)
  words_more ws k x h so_far e =
      let others : WordsTo (set ws k x) k = λ m l. get_or-set_other ws k m x 0 (λ same. omega (arith, same, l)) ∙ so_far m l in
      below_more (λ m. get_or (set ws k x) m 0 ≡ get_or p (i + 4 * m + 1) 0) k others (get_or-set_same ws k x 0 h ∙ e)

-- ---- rows one after another

-- so many rows of so many bytes each, and what they have stored
pub record Rowed (bytes : ℕ) (p : List ℕ) (i j q q' : ℕ) (f f' : List ℕ) : Type 0 where
  pub turns : ℕ
  pub at_is : j ≡ i + bytes * turns
  pub place_is : q' ≡ q + 16 * turns
  pub stored : Stored p i j q q' f f'
