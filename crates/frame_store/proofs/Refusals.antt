-- What an accepted call knows, what makes a call accepted, and which number a refused one has. The tests of the refusal table are turned into named
-- facts (`Fitting`, `Granted`, `Storable`) and back once, here, so that no proof of a function or of a list of calls looks into the table.
-- Assumes nothing.
use Rattle.std.proofs.Common.{◌≡◌, refl, sym, ap, ◌∙◌, Bool, true, false, cond, not, ◌&&◌, List, [], ◌∷◌, ◌++◌, ℕ, suc, ◌+◌, ◌-◌, ◌*◌, ◌/◌, ◌%◌, ◌^◌, ◌≤◌, ◌<◌, Result, Ok, Err}
use native.Mathlib.Nat.{div-lt_iff_lt-mul, le-div_iff_mul-le, pow-succ'}
use native.Mathlib.Omega.{arith}
use borrow.Author.Tests.{eqb-true, eqb-false, leb-true, leb-false, ltb-true, not-false, lt-ltb, le-leb, lt-leb, eq-eqb, ne_eqb}
use lib.Dec.{eqb, leb, ltb}
use lib.ListN.{length}
use lib.Pow.{pow_pos}
use Rattle.base.specs.Format.{major_frame}
use Rattle.base.specs.declared.refusal.Refusal.{Refusal}
use Rattle.base.specs.declared.refusal.Refusal.TheVariants.{WrongLength, NotWholeSlots, BitsBeyondSlots, NoFreeSlot, NoSuchSlot}
use Rattle.base.specs.Refusals.{Line, ◌when◌, number, number_of, answered, permitted, refusal}
use Rattle.base.proofs.Lines.{NoneHolds, answered-append, numbered, positive}
use Rattle.frame_store.specs.Slots.{slots, whole_slots, is_in_use, lowest_free}
use Rattle.frame_store.specs.Answers.{area_lines, store_lines, slot_lines}
use Rattle.frame_store.proofs.Lowest.{found}

-- ---- any lines

-- where no number is given, no line holds
none-holds : (ls : List Line) → refusal ls ≡ 0 → NoneHolds ls
none-holds [] e = tt
none-holds (l ∷ ls) e = first l.holds refl e (none-holds ls)
  where
    first : (b : Bool) → l.holds ≡ b → cond b (number l.reason) (refusal ls) ≡ 0 → (refusal ls ≡ 0 → NoneHolds ls) → NoneHolds (l ∷ ls)
    first true h e rest = absurd (positive l.reason e)
    first false h e rest = (h, rest e)

-- lines that permit have no number, and lines that refuse have that of the refusal
pub permits : (ls : List Line) → Ok tt ≡ permitted ls → refusal ls ≡ 0
permits ls e = sym (numbered ls tt) ∙ ap number_of (sym e)

pub refuses : (ls : List Line) (r : Refusal) → Err r ≡ permitted ls → refusal ls ≡ number r
refuses ls r e = sym (numbered ls tt) ∙ ap number_of (sym e)

-- and answer it, and others that follow them do not matter
pub refused-by : {A : Type 0} (refused : Refusal → A) (ls : List Line) (given : A) (r : Refusal) → Err r ≡ permitted ls
    → answered refused ls given ≡ refused r
refused-by refused [] given r e = absurd cc
refused-by {A} refused (l ∷ ls) given r e = first l.holds e (refused-by refused ls given r)
  where
    first : (b : Bool) → Err r ≡ cond b (Err l.reason) (permitted ls) → (Err r ≡ permitted ls → answered refused ls given ≡ refused r)
        → cond b (refused l.reason) (answered refused ls given) ≡ refused r
    first true e rest = let same : l.reason ≡ r = cc in ap refused same
    first false e rest = rest e

pub refused-first : (ls ms : List Line) (r : Refusal) → Err r ≡ permitted ls → Err r ≡ permitted (ls ++ ms)
refused-first ls ms r e = sym (answered-append Err ls ms (Ok tt) ∙ refused-by Err ls (permitted ms) r e)

both : (a b : Bool) → (a && b) ≡ true → (a ≡ true) × (b ≡ true)
both true b e = (refl, e)
both false b e = let z : ◌≡◌ {A = ℕ} 0 1 = cc in absurd (omega arith)

-- ---- an area of whole slots

pub record Whole (size : ℕ) : Type 0 where
  pub exact : size % major_frame ≡ 0
  pub some : 1 ≤ slots size
  pub most : slots size ≤ 64

pub to_whole : (size : ℕ) → whole_slots size ≡ true → Whole size
to_whole size e =
    let p = both (eqb (size % major_frame) 0) (leb 1 (slots size) && leb (slots size) 64) e in
    let q = both (leb 1 (slots size)) (leb (slots size) 64) p.1 in
    record { exact = eqb-true _ _ p.0; some = leb-true _ _ q.0; most = leb-true _ _ q.1 }

pub is_whole : (size : ℕ) → Whole size → whole_slots size ≡ true
is_whole size w = rw (eq-eqb _ _ w.exact, le-leb 1 _ w.some, le-leb _ 64 w.most)

module _ (size bits : ℕ) where
  -- ---- what every call tests: whole slots, and bits within them

  pub record Fitting : Type 0 where
    pub whole : Whole size
    pub below : bits < 2 ^ slots size

  pub to-fitting : refusal (area_lines size bits) ≡ 0 → Fitting
  to-fitting e =
      let p = none-holds (area_lines size bits) e in
      record { whole = to_whole size (not-false _ p.0); below = leb-false _ _ p.1.0 }

  pub not_exact : (size % major_frame ≡ 0 → ⊥) → Err NotWholeSlots ≡ permitted (area_lines size bits)
  not_exact h = rw (ne_eqb (size % major_frame) 0 h)

  pub no_slot : size % major_frame ≡ 0 → slots size ≡ 0 → Err NotWholeSlots ≡ permitted (area_lines size bits)
  no_slot e h = rw (eq-eqb (size % major_frame) 0 e, h)

  pub many_slots : size % major_frame ≡ 0 → 64 < slots size → Err NotWholeSlots ≡ permitted (area_lines size bits)
  many_slots e h = rw (eq-eqb (size % major_frame) 0 e, le-leb 1 (slots size) (omega arith), lt-leb (slots size) 64 h)

  -- the code looks at the bits from the last slot's on
  last_bit : 1 ≤ slots size → 2 * 2 ^ (slots size - 1) ≡ 2 ^ slots size
  last_bit h = sym (pow-succ' 2 (slots size - 1)) ∙ (let e : suc (slots size - 1) ≡ slots size = omega arith in rw e)

  pub beyond : Whole size → 1 < bits / 2 ^ (slots size - 1) → Err BitsBeyondSlots ≡ permitted (area_lines size bits)
  beyond w h =
      let twice : 2 * 2 ^ (slots size - 1) ≤ bits = (le-div_iff_mul-le (pow_pos (slots size - 1))).0 (omega arith) in
      rw (is_whole size w, le-leb (2 ^ slots size) bits (omega (arith, last_bit w.some)))

  pub fits : Whole size → bits / 2 ^ (slots size - 1) ≤ 1 → Ok tt ≡ permitted (area_lines size bits)
  fits w h =
      let d : bits / 2 ^ (slots size - 1) < 2 = omega arith in
      let l : bits < 2 * 2 ^ (slots size - 1) = (div-lt_iff_lt-mul (pow_pos (slots size - 1))).0 d in
      rw (is_whole size w, lt-leb (2 ^ slots size) bits (omega (arith, last_bit w.some)))

  -- ---- a slot that may be read or released

  pub record Granted (i : ℕ) : Type 0 where
    pub fitting : Fitting
    pub there : i < slots size
    pub used : is_in_use bits i ≡ true

  pub slot-none : (i : ℕ) → refusal (slot_lines size bits i) ≡ 0 → NoneHolds (slot_lines size bits i)
  slot-none i e = none-holds (slot_lines size bits i) e

  pub to-granted : (i : ℕ) → refusal (slot_lines size bits i) ≡ 0 → Granted i
  to-granted i e =
      let whole-line = slot-none i e in
      let bits-line = whole-line.1 in
      let slot-line = bits-line.1 in
      let s = both (ltb i (slots size)) (is_in_use bits i) (not-false _ slot-line.0) in
      record {
        fitting = record { whole = to_whole size (not-false _ whole-line.0); below = leb-false _ _ bits-line.0 };
        there = ltb-true _ _ s.0;
        used = s.1;
      }

  pub is_granted : (i : ℕ) → Granted i → Ok tt ≡ permitted (slot_lines size bits i)
  is_granted i g =
      rw (is_whole size g.fitting.whole, lt-leb _ bits g.fitting.below, lt-ltb i _ g.there, g.used)

  pub room : (i : ℕ) → Granted i → i * major_frame + major_frame ≤ size
  room i g = omega (arith, g.there, g.fitting.whole.exact)

  pub slot-free : (i : ℕ) → Fitting → is_in_use bits i ≡ false → Err NoSuchSlot ≡ permitted (slot_lines size bits i)
  slot-free i g h = rw (is_whole size g.whole, lt-leb _ bits g.below, h) (either (ltb i (slots size)))
    where
      either : (x : Bool) → ◌≡◌ {A = Result (Unit {0}) Refusal} (Err NoSuchSlot) (cond (not (x && false)) (Err NoSuchSlot) (Ok tt))
      either true = refl
      either false = refl

  -- ---- a frame that may be stored

  pub record Storable (frame : List ℕ) : Type 0 where
    pub sized : length frame ≡ major_frame
    pub fitting : Fitting
    pub there : lowest_free (slots size) bits < slots size
    pub free : is_in_use bits (lowest_free (slots size) bits) ≡ false

  pub store_none : (frame : List ℕ) → refusal (store_lines size bits frame) ≡ 0 → NoneHolds (store_lines size bits frame)
  store_none frame e = none-holds (store_lines size bits frame) e

  pub to-storable : (frame : List ℕ) → refusal (store_lines size bits frame) ≡ 0 → Storable frame
  to-storable frame e =
      let length-line = store_none frame e in
      let whole-line = length-line.1 in
      let bits-line = whole-line.1 in
      let full-line = bits-line.1 in
      let f = found bits (slots size) in
      let some-free : lowest_free (slots size) bits ≡ slots size → ⊥ = eqb-false _ _ full-line.0 in
      let there : lowest_free (slots size) bits < slots size = omega (arith, f.within) in
      record {
        sized = eqb-true _ _ (not-false _ length-line.0);
        fitting = record { whole = to_whole size (not-false _ whole-line.0); below = leb-false _ _ bits-line.0 };
        there = there;
        free = f.free there;
      }

  pub is_storable : (frame : List ℕ) → length frame ≡ major_frame → Fitting → lowest_free (slots size) bits < slots size
      → refusal (store_lines size bits frame) ≡ 0
  is_storable frame sized g there =
      rw (eq-eqb _ _ sized, is_whole size g.whole, lt-leb _ bits g.below, ne_eqb (lowest_free (slots size) bits) (slots size) (λ z. omega arith))

  pub wrong-frame : (frame : List ℕ) → (length frame ≡ major_frame → ⊥) → Err WrongLength ≡ permitted (store_lines size bits frame)
  wrong-frame frame h = rw (ne_eqb (length frame) major_frame h)

  pub wrong-area : (frame : List ℕ) (r : Refusal) → length frame ≡ major_frame → Err r ≡ permitted (area_lines size bits)
      → Err r ≡ permitted (store_lines size bits frame)
  wrong-area frame r sized e =
      let full = eqb (lowest_free (slots size) bits) (slots size) in
      rw (eq-eqb (length frame) major_frame sized) (refused-first (area_lines size bits) (NoFreeSlot when full ∷ []) r e)

  pub all-used : (frame : List ℕ) → length frame ≡ major_frame → Fitting → lowest_free (slots size) bits ≡ slots size
      → Err NoFreeSlot ≡ permitted (store_lines size bits frame)
  all-used frame sized g h =
      rw (eq-eqb (length frame) major_frame sized, is_whole size g.whole, lt-leb _ bits g.below, eq-eqb (lowest_free (slots size) bits) (slots size) h)
