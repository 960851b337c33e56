-- The promise of the check on its two ways out. Assumes nothing.
use Rattle.std.proofs.Common.{◌≡◌, refl, sym, ap, ◌∙◌, Bool, true, false, cond, List, [], ◌∷◌, ℕ, Result, Ok, Err}
use Rattle.base.proofs.Lines.{positive}
use Rattle.base.proofs.Numbers.{Bytes, to-bytes}
use Rattle.book.specs.declared.faults.Fault.{Fault}
use Rattle.book.specs.Faults.{FaultLine, book_faults, view_refusal, fault_at, first_of, first_fault, fault_number, fault_entry}
use Rattle.book.proofs.Ways.{view_number}
use Rattle.book_check.specs.Checking.{verdict, first_entry}
use Rattle.book_check.specs.Promise.{CheckPromise}
use Rattle.book_check.proofs.Wholes.{is_book, is_given, given-clear}

-- the first fault's entry is the table's
first-entry : (fs : List FaultLine) → fault_entry (first_of fs) ≡ first_entry fs
first-entry [] = refl
first-entry (f ∷ fs) = go f.line.holds (first-entry fs)
  where
    go : (t : Bool) → fault_entry (first_of fs) ≡ first_entry fs
        → fault_entry (cond t (Err (fault_at f.line.reason f.entry)) (first_of fs)) ≡ cond t f.entry (first_entry fs)
    go true e = refl
    go false e = e

module _ (b : List ℕ) where
  view_entry : fault_entry (first_fault b) ≡ first_entry (book_faults b)
  unfolding first_fault
  view_entry = first-entry (book_faults b)

  -- yes is no fault
  clear_accepted : view_refusal b ≡ 0 → first_fault b ≡ Ok tt
  clear_accepted z = go (first_fault b) (view_number b ∙ z)
    where
      go : (r : Result Unit Fault) → fault_number r ≡ 0 → r ≡ Ok tt
      go (Ok u) e = refl
      go (Err f) e = absurd (positive f.refusal e)

  accepted-clear : verdict b ≡ Ok tt → view_refusal b ≡ 0
  unfolding verdict
  accepted-clear a = sym (view_number b) ∙ ap fault_number a

pub promised : (b : List ℕ) (r : Result Unit Fault) → Bytes b → r ≡ first_fault b → CheckPromise b r
unfolding verdict
promised b r bytes is =
    let clear : r ≡ Ok tt → view_refusal b ≡ 0 = λ a. sym (view_number b) ∙ ap fault_number (sym is ∙ a) in
    record {
      answer = is;
      first_is = is;
      fault_is = record { number_is = ap fault_number is ∙ view_number b; entry-is = ap fault_entry is ∙ view_entry b };
      yes_given = λ a. is_given b (clear a) bytes;
      given_yes = λ g. is ∙ clear_accepted b (given-clear b g);
      says = λ a. is_book b (clear a) bytes;
      apart = λ a d are yes other year cycles.
          other (is_book d (accepted-clear d yes) (to-bytes d are) ∙ rw (year, cycles) (sym (is_book b (clear a) bytes)));
    }
