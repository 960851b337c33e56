-- The list of faults: the first on each way out of it, its number, and what is known where none holds. Assumes nothing.
use Rattle.std.proofs.Common.{◌≡◌, refl, sym, ap, ◌∙◌, Bool, true, false, cond, not, List, [], ◌∷◌, ℕ, ◌≤◌, ◌<◌, Some, None, Result, Ok, Err}
use native.Mathlib.Omega.{arith}
use lib.Dec.{ltb}
use lib.ListN.{length}
use borrow.Author.Tests.{lt-ltb, le-ltb, ltb-false}
use Rattle.base.specs.Ranges.{lowest}
use Rattle.base.specs.declared.refusal.Refusal.{Refusal}
use Rattle.base.specs.declared.refusal.Refusal.TheVariants.{YearOutsideSpan, WrongBookLength, NotACycle, WrongInstant, WrongOffset}
use Rattle.base.specs.Refusals.{number as number_in_papers, number_of, refusal, permitted}
use Rattle.base.proofs.Lines.{numbered}
use Rattle.base.proofs.Ranges.{none-holds, holds-none}
use Rattle.time_code.specs.Calendar.{in_span}
use Rattle.book.specs.declared.faults.Fault.{Fault}
use Rattle.book.specs.Faults.{Contents, contents, is_sized, bad_body, bad_instant, bad_offset, FaultLine, faults, book_faults, lines_of}
use Rattle.book.specs.Faults.{accepted, view_refusal, among, fault_at, first_of, first_fault, fault_number}
use Rattle.book.specs.Sought.{first_such, unless_found}

-- a fault without its entry
abbrev pub without_entry : Result Unit Fault → Result Unit Refusal
without_entry (Ok u) = Ok tt
without_entry (Err f) = Err f.refusal

-- the first fault's number, and the fault without its entry, are the table's
pub first-number : (fs : List FaultLine) → fault_number (first_of fs) ≡ refusal (lines_of fs)
first-number [] = refl
first-number (f ∷ fs) = go f.line.holds (first-number fs)
  where
    go : (b : Bool) → fault_number (first_of fs) ≡ refusal (lines_of fs)
        → fault_number (cond b (Err (fault_at f.line.reason f.entry)) (first_of fs)) ≡ cond b (number_in_papers f.line.reason) (refusal (lines_of fs))
    go true e = refl
    go false e = e

pub first-answer : (fs : List FaultLine) → without_entry (first_of fs) ≡ permitted (lines_of fs)
first-answer [] = refl
first-answer (f ∷ fs) = go f.line.holds (first-answer fs)
  where
    go : (b : Bool) → without_entry (first_of fs) ≡ permitted (lines_of fs)
        → without_entry (cond b (Err (fault_at f.line.reason f.entry)) (first_of fs)) ≡ cond b (Err f.line.reason) (permitted (lines_of fs))
    go true e = refl
    go false e = e

-- ---- in bytes
module _ (b : List ℕ) where
  pub view_number : fault_number (first_fault b) ≡ view_refusal b
  unfolding first_fault view_refusal
  view_number = first-number (book_faults b)

  pub view_answer : without_entry (first_fault b) ≡ accepted b
  unfolding first_fault accepted
  view_answer = first-answer (book_faults b)

  -- of any answer that is the first fault
  pub number_by_first : {r : Result Unit Fault} → r ≡ first_fault b → fault_number r ≡ view_refusal b
  number_by_first e = ap fault_number e ∙ view_number

  pub answer_by_first : {r : Result Unit Fault} → r ≡ first_fault b → without_entry r ≡ accepted b
  answer_by_first e = ap without_entry e ∙ view_answer

  -- a book that is accepted has no number of a refusal
  pub accepted-none : accepted b ≡ Ok tt → view_refusal b ≡ 0
  unfolding accepted view_refusal
  accepted-none e = sym (numbered (lines_of (book_faults b)) tt) ∙ ap number_of e

  pub short : length b < 4 → Err (fault_at WrongBookLength 0) ≡ first_fault b
  unfolding first_fault
  short h = rw (lt-ltb (length b) 4 h)

  pub long : 4 ≤ length b → first_of (faults (contents b)) ≡ first_fault b
  unfolding first_fault
  long h = rw (le-ltb (length b) 4 h)

  pub long_number : 4 ≤ length b → refusal (lines_of (faults (contents b))) ≡ view_refusal b
  unfolding view_refusal
  long_number h = rw (le-ltb (length b) 4 h)

-- ---- one after the other: the first is the answer's if it is a fault
abbrev pub before : Result Unit Fault → Result Unit Fault → Result Unit Fault
before (Ok u) r = r
before (Err f) r = Err f

module _ (n : ℕ) (reason : Refusal) (bad : ℕ → Bool) where
  pub first-among : (fs : List FaultLine) → first_of (among n reason bad ∷ fs) ≡ before (unless_found reason (first_such bad n)) (first_of fs)
  first-among fs = go (ltb (lowest bad 0 n) n)
    where
      go : (t : Bool) → cond t (Err (fault_at reason (lowest bad 0 n))) (first_of fs)
          ≡ before (unless_found reason (cond t (Some (lowest bad 0 n)) None)) (first_of fs)
      go true = refl
      go false = refl

  pub last-among : first_of (among n reason bad ∷ []) ≡ unless_found reason (first_such bad n)
  last-among = go (ltb (lowest bad 0 n) n)
    where
      go : (t : Bool) → cond t (Err (fault_at reason (lowest bad 0 n))) (Ok tt) ≡ unless_found reason (cond t (Some (lowest bad 0 n)) None)
      go true = refl
      go false = refl

module _ (c : Contents) where
  abbrev pub number : ℕ
  number = refusal (lines_of (faults c))

  -- what is answered where nothing but the contents is looked at
  abbrev pub answer : Result Unit Refusal
  answer = permitted (lines_of (faults c))

  pub permitted-none : Ok tt ≡ answer → number ≡ 0
  permitted-none e = sym (ap number_of e ∙ numbered (lines_of (faults c)) tt)

  abbrev pub first : Result Unit Fault
  first = first_of (faults c)

  -- the lowest entry with such a fault
  abbrev body_fault : ℕ
  body_fault = lowest (bad_body c) 0 c.count

  abbrev instant_fault : ℕ
  instant_fault = lowest (bad_instant c) 0 c.count

  abbrev offset_fault : ℕ
  offset_fault = lowest (bad_offset c) 0 c.count

  -- ---- the ways out
  pub other-year : in_span c.year ≡ false → Err (fault_at YearOutsideSpan 0) ≡ first
  other-year s = rw s

  module _ (s : in_span c.year ≡ true) where
    pub other-size : is_sized c ≡ false → Err (fault_at WrongBookLength 0) ≡ first
    other-size z = rw (s, z)

    -- the three searches
    pub by_searches : is_sized c ≡ true
        → before (unless_found NotACycle (first_such (bad_body c) c.count))
        (before (unless_found WrongInstant (first_such (bad_instant c) c.count)) (unless_found WrongOffset (first_such (bad_offset c) c.count)))
        ≡ first
    by_searches z =
        let bodies = unless_found NotACycle (first_such (bad_body c) c.count) in
        let instants = unless_found WrongInstant (first_such (bad_instant c) c.count) in
        let last = last-among c.count WrongOffset (bad_offset c) in
        let second = first-among c.count WrongInstant (bad_instant c) (among c.count WrongOffset (bad_offset c) ∷ []) in
        let all = first-among c.count NotACycle (bad_body c) (among c.count WrongInstant (bad_instant c) ∷ among c.count WrongOffset (bad_offset c) ∷ []) in
        rw (s, z) (sym (all ∙ ap (before bodies) (second ∙ ap (before instants) last)))

  -- ---- no fault, entry by entry
  pub record Sound : Type 0 where
    pub span : in_span c.year ≡ true
    pub sized : is_sized c ≡ true
    pub bodies : (i : ℕ) → i < c.count → bad_body c i ≡ false
    pub instants : (i : ℕ) → i < c.count → bad_instant c i ≡ false
    pub offsets : (i : ℕ) → i < c.count → bad_offset c i ≡ false

  pub sound_none : Sound → 0 ≡ number
  sound_none s =
      rw (s.span, s.sized, le-ltb body_fault c.count (none-holds (bad_body c) c.count s.bodies))
      (rw (le-ltb instant_fault c.count (none-holds (bad_instant c) c.count s.instants))
      (rw (le-ltb offset_fault c.count (none-holds (bad_offset c) c.count s.offsets))))

  pub none-sound : number ≡ 0 → Sound
  none-sound =
      go (in_span c.year) (is_sized c) (ltb body_fault c.count) (ltb instant_fault c.count) (ltb offset_fault c.count) refl refl refl refl refl
    where
      clear : (p : ℕ → Bool) → ltb (lowest p 0 c.count) c.count ≡ false → (i : ℕ) → i < c.count → p i ≡ false
      clear p e = holds-none p c.count (ltb-false (lowest p 0 c.count) c.count e)

      go : (s z p q r : Bool) → in_span c.year ≡ s → is_sized c ≡ z → ltb body_fault c.count ≡ p → ltb instant_fault c.count ≡ q
          → ltb offset_fault c.count ≡ r
          → ◌≡◌ {A = ℕ} (cond (not s) 13 (cond (not z) 16 (cond p 17 (cond q 18 (cond r 19 0))))) 0 → Sound
      go false z p q r es ez ep eq er e = absurd (omega arith)
      go true false p q r es ez ep eq er e = absurd (omega arith)
      go true true true q r es ez ep eq er e = absurd (omega arith)
      go true true false true r es ez ep eq er e = absurd (omega arith)
      go true true false false true es ez ep eq er e = absurd (omega arith)
      go true true false false false es ez ep eq er e =
          record { span = es; sized = ez; bodies = clear (bad_body c) ep; instants = clear (bad_instant c) eq; offsets = clear (bad_offset c) er }
