-- The first fault of a book by the tests of the code: the bodies are looked at as rows of all that follows the entries. Assumes nothing.
use Rattle.std.proofs.Common.{◌≡◌, sym, ap, ◌∙◌, true, false, List, ℕ, ◌+◌, ◌*◌, ◌-◌, ◌/◌, ◌≤◌, length, take, drop, Option, Result, Ok, Err}
use native.Mathlib.Omega.{arith}
use lib.ListN.{length-drop}
use lib.Seq.{take_all}
use Rattle.base.specs.declared.refusal.Refusal.TheVariants.{YearOutsideSpan, WrongBookLength, NotACycle, WrongInstant, WrongOffset}
use Rattle.time_code.specs.Calendar.{in_span}
use Rattle.book.specs.declared.faults.Fault.{Fault}
use Rattle.book.specs.Layout.{book_length, cycles_said, year_said}
use Rattle.book.specs.Faults.{contents, is_sized, bad_body, bad_instant, bad_offset, fault_at, first_fault}
use Rattle.book.specs.Sought.{first_such, unless_found, Sized, Laid, bad_row}
use Rattle.book.proofs.Said.{sized, body-row}
use Rattle.book.proofs.Searches.{found-same}
use Rattle.book.proofs.Ways.{before, long, other-year, other-size, by_searches}

-- ---- the whole book
module _ (b : List ℕ) (l : 4 ≤ length b) where
  pub refused-13 : in_span (year_said b) ≡ false → Err (fault_at YearOutsideSpan 0) ≡ first_fault b
  refused-13 s = other-year (contents b) s ∙ long b l

  pub refused-16 : in_span (year_said b) ≡ true → is_sized (contents b) ≡ false → Err (fault_at WrongBookLength 0) ≡ first_fault b
  refused-16 s z = other-size (contents b) s z ∙ long b l

-- ---- its entries
module _ (b : List ℕ) (laid : Laid b) (n : ℕ) (count : n ≡ cycles_said b) where
  pub has_size_lem : Sized b n
  has_size_lem = let s = sized b laid.sized in record { said = count; few = omega arith; long = s.long ∙ ap book_length (sym count) }

  -- what follows the entries
  abbrev rest : List ℕ
  rest = take (length b - (4 + 12 * n)) (drop (4 + 12 * n) b)

  rest-is : rest ≡ drop (4 + 12 * n) b
  rest-is = take_all (length b - (4 + 12 * n)) (drop (4 + 12 * n) b) (omega (arith, length-drop (4 + 12 * n) b))

  -- as many whole bodies as the book says
  rest-count : length rest / 65536 ≡ n
  rest-count = let s = has_size_lem in omega (arith, ap length rest-is, length-drop (4 + 12 * n) b)

  module _ (y : ℕ) (year : y ≡ year_said b) where
    same_body : (i : ℕ) → bad_row y rest i ≡ bad_body (contents b) i
    unfolding bad_body bad_row
    same_body i = rw (rest-is, body-row b n i count, year)

    bodies-same : first_such (bad_row y rest) (length rest / 65536) ≡ first_such (bad_body (contents b)) n
    bodies-same = ap (first_such (bad_row y rest)) rest-count ∙ found-same (bad_row y rest) n (bad_body (contents b)) (λ k h. same_body k)

    -- the code's three searches, and the faults that they find, one after the other
    module _ (r : Option ℕ) (e : r ≡ first_such (bad_row y rest) (length rest / 65536)) (found : Result Unit Fault) (fault : found ≡ unless_found NotACycle r) where
      bodies-are : unless_found NotACycle (first_such (bad_body (contents b)) (cycles_said b)) ≡ found
      bodies-are = sym (fault ∙ ap (unless_found NotACycle) (e ∙ bodies-same ∙ ap (first_such (bad_body (contents b))) count))

      all : before (unless_found NotACycle (first_such (bad_body (contents b)) (cycles_said b)))
          (before (unless_found WrongInstant (first_such (bad_instant (contents b)) (cycles_said b)))
          (unless_found WrongOffset (first_such (bad_offset (contents b)) (cycles_said b)))) ≡ first_fault b
      all = by_searches (contents b) laid.span laid.sized ∙ long b laid.header

      pub bad_body_first : (f : Fault) → found ≡ Err f → found ≡ first_fault b
      bad_body_first f is = is ∙ rw (bodies-are, is) at all

      module _ (good : found ≡ Ok tt) (q : Option ℕ) (eq : q ≡ first_such (bad_instant (contents b)) n) (next : Result Unit Fault)
          (later : next ≡ unless_found WrongInstant q) where
        instants-are : unless_found WrongInstant (first_such (bad_instant (contents b)) (cycles_said b)) ≡ next
        instants-are = sym (later ∙ ap (unless_found WrongInstant) (eq ∙ ap (first_such (bad_instant (contents b))) count))

        pub bad_instant_first : (f : Fault) → next ≡ Err f → next ≡ first_fault b
        bad_instant_first f is = is ∙ rw (bodies-are, good, instants-are, is) at all

        module _ (rise : next ≡ Ok tt) (p : Option ℕ) (ep : p ≡ first_such (bad_offset (contents b)) n) (last : Result Unit Fault)
            (latest : last ≡ unless_found WrongOffset p) where
          offsets-are : unless_found WrongOffset (first_such (bad_offset (contents b)) (cycles_said b)) ≡ last
          offsets-are = sym (latest ∙ ap (unless_found WrongOffset) (ep ∙ ap (first_such (bad_offset (contents b))) count))

          pub the_last : last ≡ first_fault b
          the_last = rw (bodies-are, good, instants-are, rise, offsets-are) at all
